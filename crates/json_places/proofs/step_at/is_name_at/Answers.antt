-- The reader begins at the offset, and its first token is the name.
use Rattle.std.proofs.Common.{◌≡◌, ◌<◌, ◌∙◌, ◌∷◌, drop, get_or, length, refl, rules, sym}
use Rattle.std.proofs.lemmas.Option.{slice_get_read}
use Rattle.json.specs.Token as Tokens
use Rattle.json.specs.Lex.{tokens}
use Rattle.json_places.proofs.step_at.is_name_at.Goals as goal

pub returns-in-Some-Key : goal.returns-in-Some-Key
returns-in-Some-Key c = λ equal.
    let read : tokens (drop c.args.offset c.args.text.now) ≡ Tokens.key c.in-Some-Key.key.now ∷ c.next.new.self =
    sym (rw c.range_from.ensures.value at c.in_ok-reader.ensures.ok) ∙ rw c.in-Some-Key.field-0-is at c.in-Some-Key.ensures.value in
    let inside : c.args.offset < length c.args.text.now = search rules in
    let quote : 34 ≡ get_or c.args.text.now c.args.offset 34 = search rules in
    let name : c.in-Some-Key.key.now ≡ c.args.name.now = search rules in
    record { quoted = slice_get_read c.args.text.now _ c.args.offset 34 refl inside quote; rest = c.next.new.self; reads = rw name at read }

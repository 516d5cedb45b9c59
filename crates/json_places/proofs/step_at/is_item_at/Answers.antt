-- The byte at the offset is no white space, and a value begins with it after a mark.
use Rattle.std.proofs.Common.{◌≡◌, ◌<◌, ◌∙◌, ◌∷◌, drop, false, get_or, length, rules, sym}
use Rattle.std.proofs.lemmas.Option.{slice_get-get_or}
use Rattle.json.specs.Lex.{tokens}
use Rattle.json.specs.Reads.{token_of}
use Rattle.json_places.specs.Places.{IsAfterMark, is_white_space}
use Rattle.json_places.proofs.step_at.is_item_at.Goals as goal

pub returns-in-Some : goal.returns-in-Some
returns-in-Some c = λ equal.
    let inside : c.args.offset < length c.args.text.now = search rules in
    let solid : is_white_space (get_or c.args.text.now c.args.offset 0) ≡ false =
    rw c.as_bytes.ensures.value at (sym c.is_white_space.ensures ∙ c.if-is_white_space.false) in
    let listed : IsAfterMark c.args.text.now c.args.offset =
    rw c.as_bytes-2.ensures.value at (c.is_after_mark.ensures c.if-not-is_after_mark.false) in
    let read : tokens (drop c.args.offset c.args.text.now) ≡ token_of c.in-Some.token ∷ c.next.new.self =
    sym (rw c.range_from.ensures.value at c.in_ok-reader.ensures.ok) ∙ c.in-Some.ensures.value in
    record {
      byte = get_or c.args.text.now c.args.offset 0;
      there = slice_get-get_or c.args.text.now c.args.offset 0 inside;
      solid = solid;
      listed = listed;
      first = token_of c.in-Some.token;
      rest = c.next.new.self;
      reads = read;
      begins = sym c.begins_value.ensures ∙ equal;
    }

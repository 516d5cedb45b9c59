-- The first character is a `v`.
use Rattle.std.proofs.Common.{◌≡◌, ◌∙◌, ◌∷◌, ap, chars, sym}
use Rattle.std.proofs.lemmas.Str.{chars_past_char}
use Rattle.std.specs.Str.Iter.{chars_rest}
use Rattle.semver_command.specs.Written.{without_mark}
use Rattle.semver_command.proofs.written.without_mark.Goals as goal

pub returns-in-Some-v : goal.returns-in-Some-v
returns-in-Some-v c =
    let past : chars c.args.text.now ≡ c.in-Some-v.field-0 ∷ chars (chars_rest c.next.new.self) =
    chars_past_char c.args.text.now (chars_rest c.next.new.self) c.in-Some-v.field-0 c.utf8.text
    (sym c.chars-left.ensures.rest ∙ c.in-Some-v.ensures.steps.0) in
    let marked : chars c.args.text.now ≡ 118 ∷ chars (chars_rest c.next.new.self) =
    rw c.in-Some-v.field-0-test at past in
    ap chars c.as_str.ensures ∙ sym (ap without_mark marked)

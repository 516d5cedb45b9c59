-- A text has no more characters than bytes.
use Rattle.std.proofs.Common.{◌≡◌, ◌≤◌, ap, arith, chars, encode_utf8_all, length, rules}
use Rattle.std.proofs.lemmas.Bool.Decides.{nat_tests}
use Rattle.std.proofs.lemmas.Str.{chars_from_encodes, encodes-chars, length-le-encodes}
use Rattle.npm_texts.proofs.white.is_long.Goals as goal

pub returns-then-text-gt-MAX_LENGTH : goal.returns-then-text-gt-MAX_LENGTH
returns-then-text-gt-MAX_LENGTH c =
    let counted : c.count.result ≡ length (chars c.args.text.now) = search (rules, chars_from_encodes) in
    grind (arith, nat_tests, counted)

pub returns-else-text-gt-MAX_LENGTH : goal.returns-else-text-gt-MAX_LENGTH
returns-else-text-gt-MAX_LENGTH c =
    let short : length (chars c.args.text.now) ≤ length (encode_utf8_all (chars c.args.text.now)) =
    length-le-encodes (chars c.args.text.now) in
    let same : length (encode_utf8_all (chars c.args.text.now)) ≡ length c.args.text.now =
    ap (λ t. length t) (encodes-chars c.args.text.now c.utf8.text) in
    grind (arith, nat_tests, short, same)

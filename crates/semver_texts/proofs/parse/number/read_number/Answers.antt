use Rattle.std.proofs.Common.{◌≡◌, ◌∷◌, arith, sym}
use Rattle.semver_texts.specs.Lemmas.Texts.Digits.{read_number-large}
use Rattle.semver_texts.proofs.parse.number.read_number.Goals as goal

pub returns-then-value-gt-MAX_SAFE_INTEGER : goal.returns-then-value-gt-MAX_SAFE_INTEGER
returns-then-value-gt-MAX_SAFE_INTEGER c =
    let here : c.digits.rest.now ≡ c.in-Some-split_first.byte.now ∷ c.in-Some-split_first.others.now =
    c.in-Some-split_first.ensures.cases.0 in
    read_number-large c.args.text.now c.digits.value c.in-Some-split_first.byte.now c.in-Some-split_first.others.now
    c.digits.invariant.begins (sym c.if-is_digit.ensures) (omega (arith, c.from.ensures))
    (rw here at c.digits.invariant.value)

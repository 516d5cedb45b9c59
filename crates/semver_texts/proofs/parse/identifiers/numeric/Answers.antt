use Rattle.std.proofs.Common.{◌≡◌, ◌∷◌}
use Rattle.semver_texts.specs.Lemmas.Texts.Digits.{none-numeric}
use Rattle.semver_texts.proofs.parse.identifiers.numeric.Goals as goal

pub returns-in-None : goal.returns-in-None
returns-in-None c =
    let here : c.digits.rest.now ≡ c.in-Some.byte.now ∷ c.in-Some.others.now = c.in-Some.ensures.cases.0 in
    none-numeric c.args.text.now c.digits.value c.in-Some.byte.now c.in-Some.others.now c.in-None.ensures
    (rw here at c.digits.invariant.all) (rw here at c.digits.invariant.value)

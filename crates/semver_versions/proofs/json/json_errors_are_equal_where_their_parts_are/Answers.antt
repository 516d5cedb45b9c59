use Rattle.std.proofs.Common.{Some, ap, refl, sym}
use mathlib.Core.Bool.{true≢false}
use Rattle.std.proofs.lemmas.Option.{same_Some}
use Rattle.semver_versions.specs.declared.json.JsonError.TheVariants.{NotAString, Semver}
use Rattle.semver_versions.proofs.json.json_errors_are_equal_where_their_parts_are.Goals as goal

pub returns : goal.returns
returns c NotAString NotAString = (λ _. refl, λ _. refl)
returns c NotAString (Semver f) = (λ h. absurd (true≢false (sym h)), λ e. cc e)
returns c (Semver e) NotAString = (λ h. absurd (true≢false (sym h)), λ e. cc e)
returns c (Semver e) (Semver f) =
    let law = c.errors_are_equal_where_their_parts_are.ensures.error e f in
    (λ h. ap Some (law.0 h), λ same. law.1 (same_Some _ _ same))

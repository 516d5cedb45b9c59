use Rattle.std.proofs.Common.{◌≡◌, IfOk, Ok, Err, subst, sym}
use Rattle.std.specs.Prelude.{Result}
use Rattle.semver_cuts.specs.Steps.{IsLeast}
use Rattle.semver_texts.specs.Comparison.{version_cmp}
use Rattle.semver_texts.specs.Version.{VersionValue, least_of}
use Rattle.semver_versions.specs.VersionSteps.{IsVersion}
use Rattle.semver_versions.specs.Lemmas.Versions.VersionSteps.{first-least}
use Rattle.semver_versions.proofs.version.stepped.VersionStepped.least.Goals as goal

made : {E : Type 0} (r : Result VersionValue E) → IfOk r (λ v. v ≡ least_of 0 0 0)
    → IfOk r (IsLeast version_cmp IsVersion)
made (Ok v) is = subst (IsLeast version_cmp IsVersion) (sym is) first-least
made (Err e) is = tt

pub returns-clause-least : goal.returns-clause-least
returns-clause-least c = made c.with_pre_release.result c.with_pre_release.ensures

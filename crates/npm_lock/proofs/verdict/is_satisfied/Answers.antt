use Rattle.std.proofs.Common.{◌≡◌, ◌↔◌, ℕ, List, Bool, IsTrue, Option, Some, true, false, ap, if◌then◌else◌}
use Rattle.std.proofs.Common.{IfNone, None, option_map, refl, rules}
use Rattle.node_semver.specs.Ranges.{RangeAdmits}
use Rattle.node_semver.specs.Versions.{VersionValue}
use Rattle.npm_texts.specs.InstalledVersions.{IsInstalledVersion}
use Rattle.npm_texts.specs.Admission.{Admits, IsNoRange, of_dependencies}
use Rattle.npm_lock.specs.Verdict.{IsVerdictOfText, asks_for_any, no_version}
use Rattle.npm_lock.specs.Verdict.{satisfied, unsatisfied}
use Rattle.npm_lock.specs.declared.verdict.Verdict.TheVariants.{Invalid, Valid}
use Rattle.npm_lock.proofs.verdict.is_satisfied.Goals as goal

decided : (version : Option (List ℕ)) (text written : List ℕ) (v : VersionValue) (answer : Bool)
    → asks_for_any text ≡ false → ¬ IsNoRange of_dependencies text → version ≡ Some written → IsInstalledVersion written v
    → (IsTrue answer ↔ Admits of_dependencies text v) → IsVerdictOfText version text (if answer then Valid else Invalid)
decided version text written v true some good is reads means = satisfied written v some good is reads (means.0 refl)
decided version text written v false some good is reads means = unsatisfied written v some good is reads
    (λ h. let no : false ≡ true = means.1 h in cc no)

unread : (version : Option (List ℕ)) (text written : List ℕ) (read : Option VersionValue)
    → asks_for_any text ≡ false → ¬ IsNoRange of_dependencies text → version ≡ Some written → read ≡ None
    → IfNone read ((v : VersionValue) → ¬ IsInstalledVersion written v)
    → IsVerdictOfText version text Invalid
unread version text written read some good is none never = no_version some good (rw is (rw none at never))

pub returns-in_default : goal.returns-in_default
returns-in_default c = λ text some good means. no_version some good (rw c.in_default.is tt)

pub returns-in-Some-installed_version : goal.returns-in-Some-installed_version
returns-in-Some-installed_version c = λ text some good means.
    let told : IsTrue c.satisfies.result ↔ RangeAdmits c.args.range.now c.in-Some-installed_version.version =
    search rules in
    let admits = means c.in-Some-installed_version.version in
    decided _ text c.in-Some.text.now c.in-Some-installed_version.version _ some good
    (ap (option_map (λ t. t.now)) c.in-Some.is)
    (rw c.in-Some-installed_version.is at c.installed_version.ensures.found)
    ((λ yes. admits.0 (told.0 yes)), (λ yes. told.1 (admits.1 yes)))

pub returns-in-None : goal.returns-in-None
returns-in-None c = λ text some good means. unread _ text c.in-Some.text.now _ some good
    (ap (option_map (λ t. t.now)) c.in-Some.is) c.in-None.is c.installed_version.ensures.none

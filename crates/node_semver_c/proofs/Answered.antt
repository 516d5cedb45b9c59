-- The result for one property of versions is the result for another property that the same versions have.
use Rattle.std.proofs.Common.{◌↔◌, ℕ, List, Bool}
use Rattle.node_semver_c.specs.Pair.{IsAnswered, answered, refused}
use Rattle.node_semver_c.specs.declared.status.Fault.{Fault}
use Rattle.semver_texts.specs.Version.{VersionValue}

pub answered_as : (One Other : VersionValue → Type 0) (text : List ℕ) (status : ℕ) (answer : Bool) (fault : Fault)
    → ((v : VersionValue) → One v ↔ Other v) → IsAnswered One text status answer fault
    → IsAnswered Other text status answer fault
answered_as One Other text status answer fault same (answered v is ok reported) =
    answered v is ok ((λ t. (same v).0 (reported.0 t)), λ a. reported.1 ((same v).1 a))
answered_as One Other text status answer fault same (refused kind offset is reported) =
    refused kind offset is reported

-- The least version that a range admits, where a text admits what the range does.
use Rattle.std.proofs.Common.{◌↔◌, ℕ, List, Option, None, Some}
use Rattle.std.specs.Option.{IfSome}
use Rattle.semver_cuts.specs.Ends.{Ends}
use Rattle.node_semver.specs.Ranges.{RangeAdmits, TextAdmits}
use Rattle.node_semver.specs.Versions.{IsBelow}
use Rattle.node_semver.specs.Versions.{VersionValue}
use Rattle.node_semver.specs.Least.{IsLeastAdmitted}

module _ (text : List ℕ) (sets : List (Ends VersionValue))
    (means : (v : VersionValue) → RangeAdmits sets v ↔ TextAdmits text v) where
  -- it is admitted
  pub admitted-some : (found : Option VersionValue) → IfSome found (IsLeastAdmitted sets)
      → IfSome found (λ least. TextAdmits text least)
  admitted-some None none = none
  admitted-some (Some v) least = (means v).0 least.wanted

  -- and none that is admitted is below it
  pub least-some : (found : Option VersionValue) → IfSome found (IsLeastAdmitted sets)
      → IfSome found (λ least. (v : VersionValue) → TextAdmits text v → ¬ IsBelow v least)
  least-some None none = none
  least-some (Some v) least = λ other fits. least.none_below other ((means other).1 fits)

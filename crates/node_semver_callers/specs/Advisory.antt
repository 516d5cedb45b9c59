-- What an advisory of several ranges hits, and what it spares of a range.
use Rattle.std.specs.Prelude.{List}
use Rattle.semver_cuts.specs.declared.cut.Cut.{Cut}
use Rattle.semver_cuts.specs.SpanLists.{IsInSome}
use Rattle.semver_cuts.specs.Ends.{Ends}
use Rattle.node_semver.specs.Versions.{version_cmp}
use Rattle.node_semver.specs.Ranges.{AnyByRecursion, RangeAdmits}
use Rattle.node_semver.specs.Versions.{VersionValue}

-- one of the ranges admits the version
abbrev pub IsHit : List (List (Ends VersionValue)) → VersionValue → Type 0
IsHit advisory v = AnyByRecursion (λ (range : List (Ends VersionValue)). RangeAdmits range v) advisory

-- one of the ranges contains the cut
abbrev pub HasCut : List (List (Ends VersionValue)) → Cut VersionValue → Type 0
HasCut advisory cut = AnyByRecursion (λ (range : List (Ends VersionValue)). IsInSome version_cmp range cut) advisory

-- the range admits the version and the advisory does not hit it
pub record IsSpared (range : List (Ends VersionValue)) (advisory : List (List (Ends VersionValue))) (v : VersionValue)
    : Type 0 where
  pub admitted : RangeAdmits range v
  pub unhit : ¬ IsHit advisory v

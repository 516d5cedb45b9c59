-- The least version that two ranges admit, where each admits what a text admits.
use Rattle.std.proofs.Common.{◌↔◌, ℕ, List, Option, None, Some}
use Rattle.std.specs.Option.{IfSome}
use Rattle.node_semver.specs.Least.{AdmitNoneInCommon, BothAdmit, IsLeastCommon, IsLeastOf, IsNoneOf}
use Rattle.node_semver.specs.Cuts.{Ends}
use Rattle.node_semver.specs.Ranges.{RangeAdmits, TextAdmits}
use Rattle.node_semver.specs.Versions.{VersionValue}
use Rattle.node_semver_callers.specs.Both.{SuitsBoth}

module _ (one other : List ℕ) (sets others : List (Ends VersionValue))
    (one_means : (v : VersionValue) → RangeAdmits sets v ↔ TextAdmits one v)
    (other_means : (v : VersionValue) → RangeAdmits others v ↔ TextAdmits other v) where
  to_texts : (v : VersionValue) → BothAdmit sets others v → SuitsBoth one other v
  to_texts v both = record { first = (one_means v).0 both.one; second = (other_means v).0 both.other }

  from_texts : (v : VersionValue) → SuitsBoth one other v → BothAdmit sets others v
  from_texts v suits = record { one = (one_means v).1 suits.first; other = (other_means v).1 suits.second }

  pub least-of_texts : (found : Option VersionValue) → IfSome found (IsLeastCommon sets others)
      → IfSome found (IsLeastOf (SuitsBoth one other))
  least-of_texts None none = none
  least-of_texts (Some v) least = record {
    wanted = to_texts v least.wanted;
    none_below = λ w suits. least.none_below w (from_texts w suits);
  }

  pub none-of_texts : AdmitNoneInCommon sets others ↔ IsNoneOf (SuitsBoth one other)
  none-of_texts = (λ none v suits. none v (from_texts v suits), λ none v both. none v (to_texts v both))

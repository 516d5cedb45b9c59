-- The set of an alternative, from the common span of its comparators.
use Rattle.std.proofs.Common.{◌≡◌, ◌↔◌, ℕ, List, Option, Some, None, refl, subst, sym}
use Rattle.std.specs.Prelude.{IfSome, IsSome}
use Rattle.semver_cuts.specs.Ends.{Ends, HoldsCut}
use Rattle.semver_sets.specs.Comparator.{Comparator}
use Rattle.semver_texts.specs.Comparison.{version_cmp}
use Rattle.semver_sets.specs.Division.{IsAlternative}
use Rattle.semver_sets.specs.Merging.{IsSetOf}
use Rattle.semver_texts.specs.Version.{VersionValue}
use Rattle.semver_sets.specs.Private.RangeViews.{IsCommonSpan, IsSetOfAlternative, IsSpanOf, IsSpanOfAlternative}
use Rattle.semver_sets.specs.Private.RangeViews.{given, not_given}
use Rattle.semver_sets.specs.Lemmas.Merging.{merged-gives}

-- no comparators give no set
pub without-set : (text : List ℕ) (common : Option Comparator) → IsSpanOfAlternative text common → common ≡ None
    → IsSetOfAlternative text None
without-set text common m none =
    let empty : IsCommonSpan m.0 None = subst (IsCommonSpan m.0) none m.2 in
    not_given m.0 m.1 (λ gives. gives.some empty) refl

-- others give one where a cut lies between their common ends
pub with-set : (text : List ℕ) (common : Option Comparator) (ends : Ends VersionValue)
    (set : Option (Ends VersionValue))
    → IsSpanOfAlternative text common → common ≡ Some ends → IsSome set ↔ HoldsCut version_cmp ends
    → IfSome set (λ span. span ≡ ends) → IsSetOfAlternative text set
with-set text common ends None m some cut same =
    let is : IsCommonSpan m.0 (Some ends) = subst (IsCommonSpan m.0) some m.2 in
    not_given m.0 m.1 (λ gives. absurd (cc (cut.1 ((merged-gives m.0 ends is).0 gives)))) refl
with-set text common ends (Some set) m some cut same =
    let is : IsCommonSpan m.0 (Some ends) = subst (IsCommonSpan m.0) some m.2 in
    given m.0 set m.1 ((merged-gives m.0 ends is).1 (cut.0 refl)) (subst (IsSetOf m.0) (sym same) is) refl

-- the common span of the comparators is the set of the alternative
pub common-set : (text : List ℕ) (common : Option Comparator) (set : Option (Ends VersionValue))
    → IsSpanOfAlternative text common → IsSpanOf common set → IsSetOfAlternative text set
common-set text None set m none = subst (IsSetOfAlternative text) (sym none) (without-set text None m refl)
common-set text (Some ends) set m span = with-set text (Some ends) ends set m refl span.0 span.1

-- words before it that write no comparator change nothing
pub later-set : (text left : List ℕ) (set : Option (Ends VersionValue))
    → ((comparators : List Comparator) → IsAlternative left comparators → IsAlternative text comparators)
    → IsSetOfAlternative left set → IsSetOfAlternative text set
later-set text left set later (given comparators ends is gives of same) = given comparators ends
    (later comparators is) gives of same
later-set text left set later (not_given comparators is gives same) = not_given comparators
    (later comparators is) gives same

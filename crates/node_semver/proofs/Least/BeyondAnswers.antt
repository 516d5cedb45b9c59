-- The least version that one range has and another has not, from the best of the candidates; and that a range has a
-- version or has it not.
use native.Mathlib.Omega.{arith}
use Rattle.std.proofs.Common.{◌≡◌, ◌↔◌, ◌⊎◌, Bool, true, false, List, [], ◌∷◌, Option, Some}
use Rattle.std.specs.List.{list_any}
use Rattle.semver_cuts.specs.declared.cut.Cut.TheVariants.{Before}
use Rattle.semver_cuts.specs.Ends.{Ends}
use Rattle.semver_sets.specs.Meaning.{IsInside, RangeAdmits, RangeContains, SetAdmits}
use Rattle.semver_texts.specs.Version.{VersionValue}
use Rattle.semver_sets.specs.Lemmas.Deciding.{admit, admit-iff, any-iff, holds, holds-iff}
use Rattle.node_semver.specs.Least.{IsNoneOf}
use Rattle.node_semver.specs.Private.CandidateViews.{AreEndsTried, AreWantedBeyond, IsLeastOrNone}
use Rattle.node_semver.specs.Private.LeastViews.{IsInRange}
use Rattle.node_semver.proofs.Least.CandidateBelow.{best-least}
use Rattle.node_semver.proofs.Least.HighestCut.{beyond-between}

-- ---- a list of sets admits a version or does not

abbrev pub set_admits : VersionValue → Ends VersionValue → Bool
set_admits v set = admit (set ∷ []) v

set_admits-iff : (v : VersionValue) (set : Ends VersionValue) → (set_admits v set ≡ true) ↔ SetAdmits set v
set_admits-iff v set = grind (arith, admit-iff (set ∷ []) v)

abbrev pub range_admits : List (Ends VersionValue) → VersionValue → Bool
range_admits sets v = list_any (set_admits v) sets

pub range_admits-iff : (sets : List (Ends VersionValue)) (v : VersionValue)
    → (range_admits sets v ≡ true) ↔ RangeAdmits sets v
range_admits-iff sets v = any-iff (λ (set : Ends VersionValue). SetAdmits set v) (set_admits v) (set_admits-iff v) sets

admitted-or_not : (sets : List (Ends VersionValue)) (v : VersionValue) → RangeAdmits sets v ⊎ (¬ RangeAdmits sets v)
admitted-or_not sets v = grind (arith, range_admits-iff sets v)

abbrev pub range_contains : List (Ends VersionValue) → VersionValue → Bool
range_contains sets v = list_any (holds (Before v)) sets

pub range_contains-iff : (sets : List (Ends VersionValue)) (v : VersionValue)
    → (range_contains sets v ≡ true) ↔ RangeContains sets v
range_contains-iff sets v = any-iff (λ (set : Ends VersionValue). IsInside v set) (holds (Before v))
    (holds-iff (Before v)) sets

contained-or_not : (sets : List (Ends VersionValue)) (v : VersionValue) → RangeContains sets v ⊎
    (¬ RangeContains sets v)
contained-or_not sets v = grind (arith, range_contains-iff sets v)

-- prereleases included or not
in-or_not : (included : Bool) (sets : List (Ends VersionValue)) (v : VersionValue)
    → IsInRange included sets v ⊎ (¬ IsInRange included sets v)
in-or_not true sets v = contained-or_not sets v
in-or_not false sets v = admitted-or_not sets v

-- ---- the least version beyond the others

module _ (included : Bool) (sets others : List (Ends VersionValue)) where
  pub beyond-least : (best : Option VersionValue)
      → AreEndsTried included (AreWantedBeyond included sets others) (λ set. set.upper) sets others best
      → IsLeastOrNone (AreWantedBeyond included sets others) best
  beyond-least best tried =
      best-least included (AreWantedBeyond included sets others) sets others (λ set. set.upper)
      (record {
        admitted = λ v beyond. beyond.admitted;
        between = λ c x w alike from to lowers uppers beyond.
            beyond-between included c x w alike from to sets others lowers uppers beyond;
      })
      best tried

  -- none, where there is none: the other has each version of the one
  pub none-beyond : IsNoneOf (AreWantedBeyond included sets others)
      ↔ ((v : VersionValue) → IsInRange included sets v → IsInRange included others v)
  none-beyond = grind (arith, in-or_not)

-- the same of a list that is seen as another
pub beyond-seen : (included : Bool) (inside sets others : List (Ends VersionValue)) → inside ≡ sets
    → (best : Option VersionValue)
    → AreEndsTried included (AreWantedBeyond included inside others) (λ set. set.upper) inside others best
    → IsLeastOrNone (AreWantedBeyond included sets others) best
beyond-seen included inside sets others same best tried = grind (arith, beyond-least)

-- ---- the program's result

-- a version, where there is one
pub some-wanted : (Wanted : VersionValue → Type 0) (v : VersionValue) → IsLeastOrNone Wanted (Some v)
    → (true ≡ false) ↔ IsNoneOf Wanted
some-wanted Wanted v least = (λ e. cc e, λ none. absurd (none v least.0.wanted))

-- Worked examples: which cuts lie in some trees, and which do not. Each is computed over the definitions.
use Rattle.std.proofs.Common.{inl, inr}
use Rattle.std.proofs.Common.{◌≡◌, ◌↔◌, ℕ, true, false, List, [], ◌∷◌, Some, codes, refl, subst}
use Rattle.std.proofs.lemmas.Bool.{and_from, and_parts}
use Rattle.std.specs.List.{list_all}
use Rattle.semver_cuts.specs.declared.cut.Cut.{Cut}
use Rattle.semver_cuts.specs.declared.cut.Cut.TheVariants.{Before}
use Rattle.semver_sets.specs.Comparator.{Comparator, at_least, below, with_major}
use Rattle.semver_sets.specs.Meaning.{AnyByRecursion, IsRefused}
use Rattle.semver_texts.specs.Version.{VersionValue, least_of, release}
use Rattle.semver_sets.proofs.Ranges.AlternativeLemmas.{written-unique}
use Rattle.semver_sets.proofs.Ranges.MeaningLemmas.{NoneGive, none-from_refused}
use Rattle.semver_sets.proofs.Examples.RangeComputing.{alternatives_in}
use Rattle.semver_sets.specs.Lemmas.Deciding.{Holds, all-iff, any-iff, elements-iff}
use Rattle.semver_sets.proofs.Examples.RangeComputing.{lies_in, lies_in_some}
use Rattle.semver_sets.specs.Lemmas.Deciding.{has_elements, holds, holds-iff}
use Rattle.semver_sets.proofs.Examples.RangeComputing.{refused-by, written-by}
use Rattle.semver_sets.proofs.Examples.RangeExamples.{no_word}
use Rattle.node_semver.specs.SetTree.{Formula, InFormula, TextHasCut, both, of_text, without}
use Rattle.node_semver.proofs.Sets.TextCuts.{HasCutSome}

-- where no alternative gives a set, none has the cut
none-has : (alternatives : List (List Comparator)) (cut : Cut VersionValue) → NoneGive alternatives
    → ¬ AnyByRecursion (HasCutSome cut) alternatives
none-has [] cut nothing some = some
none-has (c ∷ alternatives) cut nothing (inl here) = nothing.0 (record { some = here.0; common = (cut, here.1) })
none-has (c ∷ alternatives) cut nothing (inr there) = none-has alternatives cut nothing.1 there

-- a refused text has no cut
pub refused-cut : (text : List ℕ) → IsRefused text → (cut : Cut VersionValue) → ¬ TextHasCut text cut
refused-cut text refused cut has =
    none-has has.alternatives cut (none-from_refused text has.alternatives has.written refused) has.common

-- ---- a test that computes

lies_in-iff : (cut : Cut VersionValue) (comparators : List Comparator)
    → (lies_in cut comparators ≡ true) ↔ HasCutSome cut comparators
lies_in-iff cut comparators =
    let each = all-iff (Holds cut) (holds cut) (holds-iff cut) comparators in (
      λ h.
          let parts = and_parts (has_elements comparators) (list_all (holds cut) comparators) h in
          ((elements-iff comparators).0 parts.0, each.0 parts.1),
      λ h. and_from _ _ ((elements-iff comparators).1 h.0) (each.1 h.1),
    )

-- the cut lies in the text where the test passes
has-by : (text : List ℕ) (alternatives : List (List Comparator)) (cut : Cut VersionValue)
    → alternatives_in text ≡ Some alternatives → lies_in_some cut alternatives ≡ true → TextHasCut text cut
has-by text alternatives cut read passes = record {
  alternatives = alternatives;
  written = written-by text alternatives read;
  common = (any-iff (HasCutSome cut) (lies_in cut) (lies_in-iff cut) alternatives).0 passes;
}

-- and nowhere else
lacks-by : (text : List ℕ) (alternatives : List (List Comparator)) (cut : Cut VersionValue)
    → alternatives_in text ≡ Some alternatives → lies_in_some cut alternatives ≡ false → ¬ TextHasCut text cut
lacks-by text alternatives cut read fails has =
    let some : AnyByRecursion (HasCutSome cut) alternatives = subst (AnyByRecursion (HasCutSome cut))
    (written-unique text has.alternatives alternatives has.written (written-by text alternatives read)) has.common in
    let passes : lies_in_some cut alternatives ≡ true =
    (any-iff (HasCutSome cut) (lies_in cut) (lies_in-iff cut) alternatives).1 some in
    cc (passes, fails)

-- ---- the texts

from_one : alternatives_in (codes ">=1") ≡ Some ((at_least (release 1 0 0) ∷ []) ∷ [])
unfolding alternatives_in
from_one = refl

below_three : alternatives_in (codes "<3") ≡ Some ((below (release 3 0 0) ∷ []) ∷ [])
unfolding alternatives_in
below_three = refl

one : alternatives_in (codes "1") ≡ Some ((with_major 1 ∷ []) ∷ [])
unfolding alternatives_in
one = refl

two : alternatives_in (codes "2") ≡ Some ((with_major 2 ∷ []) ∷ [])
unfolding alternatives_in
two = refl

-- ---- `>=1` and `<3`, without `2`

abbrev less_two : Formula
less_two = without (both (of_text (codes ">=1")) (of_text (codes "<3"))) (of_text (codes "2"))

-- the cut before 1.9.0 lies there
pub less_two-below : InFormula less_two (Before (release 1 9 0))
less_two-below = ((has-by _ _ _ from_one refl, has-by _ _ _ below_three refl), lacks-by _ _ _ two refl)

-- and that before 3.0.0-0, at which `2` ends
pub less_two-above : InFormula less_two (Before (least_of 3 0 0))
less_two-above = ((has-by _ _ _ from_one refl, has-by _ _ _ below_three refl), lacks-by _ _ _ two refl)

-- not that before 2.5.0, which lies in `2`
pub less_two-lacks : ¬ InFormula less_two (Before (release 2 5 0))
less_two-lacks h = h.1 (has-by _ _ _ two refl)

-- nor that before 3.0.0, which does not lie in `<3`
pub less_two-end : ¬ InFormula less_two (Before (release 3 0 0))
less_two-end h = lacks-by _ _ _ below_three refl h.0.1

-- ---- a refused text has no cut

-- `1` without `foo` has the cut before 1.0.0
pub less_nothing : InFormula (without (of_text (codes "1")) (of_text (codes "foo"))) (Before (release 1 0 0))
less_nothing = (has-by _ _ _ one refl, lacks-by _ _ _ no_word refl)

-- `1` and `foo` have no cut in common
pub with_nothing : (cut : Cut VersionValue) → ¬ InFormula (both (of_text (codes "1")) (of_text (codes "foo"))) cut
with_nothing cut h = refused-cut _ (refused-by _ _ (written-by _ _ no_word) refl) cut h.1

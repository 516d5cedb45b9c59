-- The test whether two ranges have the same cuts is an equivalence, and decides exactly that.
use native.Mathlib.Omega.{arith}
use Rattle.std.specs.Prelude.{◌≡◌, ◌↔◌, Bool, IsTrue, List, [], ◌∷◌, refl, true}
use mathlib.Core.Path.{sym, ◌∙◌}
use mathlib.Core.Bool.{true≢false}
use Rattle.std.specs.Cmp.{IsEquivalence, first_so, second_so}
use Rattle.std.specs.Cmp.Lexicographic.{lists_equiv}
use Rattle.semver_cuts.specs.Ends.{Ends}
use Rattle.semver_cuts.specs.Lemmas.Ends.{are_same_ends-equiv, span_same}
use Rattle.semver_texts.specs.Comparison.{version_cmp}
use Rattle.semver_texts.specs.Lemmas.Public.{version_total}
use Rattle.semver_sets.specs.RangeEquality.{AreSameCuts, are_same_cuts}
use Rattle.semver_texts.specs.Version.{VersionValue}

pub are_same_cuts-equiv : IsEquivalence are_same_cuts
are_same_cuts-equiv = lists_equiv (are_same_ends-equiv version_total)

-- the facts that follow if the test is true
pub cuts-from_test : (one other : List (Ends VersionValue)) → are_same_cuts one other ≡ true → AreSameCuts one other
cuts-from_test [] [] h = tt
cuts-from_test [] (t ∷ other) h = true≢false (sym h)
cuts-from_test (s ∷ one) [] h = true≢false (sym h)
cuts-from_test (s ∷ one) (t ∷ other) h =
    ((span_same version_cmp s t _ refl).0 (first_so _ _ h), cuts-from_test one other (second_so _ _ h))

-- and the test is true if the cuts are the same
pub test-from_cuts : (one other : List (Ends VersionValue)) → AreSameCuts one other → are_same_cuts one other ≡ true
test-from_cuts [] [] same = refl
test-from_cuts [] (t ∷ other) same = absurd same
test-from_cuts (s ∷ one) [] same = absurd same
test-from_cuts (s ∷ one) (t ∷ other) same = grind (arith, span_same, test-from_cuts one other same.1)

pub ranges_same : (one other : List (Ends VersionValue)) (r : Bool) → r ≡ are_same_cuts one other
    → IsTrue r ↔ AreSameCuts one other
ranges_same one other r e = (λ h. cuts-from_test one other (sym e ∙ h), λ same. e ∙ test-from_cuts one other same)

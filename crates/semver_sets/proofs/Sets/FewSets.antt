-- A prerelease that is looked for in each set in turn: which sets admit it, and how many comparisons it takes.
use Rattle.std.proofs.lemmas.Grind.{common_steps}
use Rattle.std.proofs.Common.{◌≡◌, ℕ, ◌+◌, ◌*◌, ◌<◌, ◌≤◌, Bool, List}
use Rattle.std.proofs.Common.{arith, get_or, length, refl, take}
use Rattle.std.proofs.lemmas.List.{take-append-drop}
use Rattle.std.proofs.lemmas.List.Sums.{count_by_more_no, count_by_more_yes, sum_by-append}
use Rattle.semver_cuts.specs.Ends.{Ends}
use Rattle.semver_sets.specs.Meaning.{HasOpenEnd}
use Rattle.semver_sets.specs.Searching.{count_of_opening, has_open_end}
use Rattle.semver_texts.specs.Version.{VersionValue}
use Rattle.semver_sets.specs.Lemmas.Deciding.{open_end-iff}

-- the first sets have no more that open the triple than all sets
pub first-count : (v : VersionValue) (n : ℕ) (sets : List (Ends VersionValue))
    → count_of_opening v (take n sets) ≤ count_of_opening v sets
first-count v n sets = grind (arith, common_steps, sum_by-append, take-append-drop)

module _ (v : VersionValue) (sets : List (Ends VersionValue)) (k : ℕ) (set : Ends VersionValue)
    (within : k < length sets) (at : set ≡ get_or sets k set) (start before after : ℕ) where
  more-by : (b : Bool) → has_open_end v set ≡ b → before ≤ start + 2 * count_of_opening v (take k sets)
      → after ≤ before + 2 → (¬ HasOpenEnd v set → after ≡ before)
      → after ≤ start + 2 * count_of_opening v (take (k + 1) sets)
  more-by b h1 h2 h3 h4 = grind (arith, count_by_more_yes, count_by_more_no, open_end-iff)

  -- one set more takes two comparisons, and none if no end of it opens the triple
  pub more-comparisons : before ≤ start + 2 * count_of_opening v (take k sets)
      → after ≤ before + 2 → (¬ HasOpenEnd v set → after ≡ before)
      → after ≤ start + 2 * count_of_opening v (take (k + 1) sets)
  more-comparisons = more-by (has_open_end v set) refl

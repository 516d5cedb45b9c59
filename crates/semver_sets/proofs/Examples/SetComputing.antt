-- The sets of a text, by tests that compute: for worked examples.
use Rattle.std.proofs.Common.{◌≡◌, ◌↔◌, ℕ, Bool, true, List, [], ◌∷◌, ◌++◌, Option, Some, None, append_assoc, inl, inr}
use Rattle.std.proofs.Common.{refl, subst}
use Rattle.std.proofs.lemmas.Bool.{and_parts, cases_Bool}
use Rattle.std.specs.List.{AllByRecursion, list_all}
use Rattle.std.specs.Ordering.{is_le, is_lt}
use Rattle.std.specs.Prelude.{map, ◌&&◌, if◌then◌else◌}
use Rattle.semver_cuts.specs.declared.cut.Cut.{Cut}
use Rattle.semver_cuts.specs.Cut.{cut_cmp}
use Rattle.semver_cuts.specs.Ends.{Ends, IsCutAtMost, IsCutBelow, span_between}
use Rattle.semver_cuts.specs.ChosenEnds.{IsChosenEnd, IsFirstLeastUpper, IsLastGreatestLower}
use Rattle.semver_cuts.specs.Lemmas.Ends.{at_most-from_le, below-from_lt, le-from_at_most, lt-from_below}
use Rattle.semver_sets.specs.Comparator.{Comparator}
use Rattle.semver_texts.specs.Comparison.{version_cmp}
use Rattle.semver_sets.specs.Merging.{AreSetsOf, AreSetsOfText, no_more, none, one_more}
use Rattle.semver_sets.specs.RangePrint.{range_text}
use Rattle.semver_texts.specs.Version.{VersionValue}
use Rattle.semver_sets.proofs.Examples.RangeComputing.{alternatives_in, are_crossed, first-same, gives-by}
use Rattle.semver_sets.specs.Lemmas.Deciding.{all-iff}
use Rattle.semver_sets.proofs.Examples.RangeComputing.{lies_in, none-by, written-by}

-- ---- an end of the comparators

-- the lower end of a comparator, or the upper one
abbrev EndOf : Type 0
EndOf = Comparator → Cut VersionValue

-- a test of two cuts, and its meaning
abbrev CutTest : Type 0
CutTest = Cut VersionValue → Cut VersionValue → Bool

abbrev SaysOfCuts : CutTest → (Cut VersionValue → Cut VersionValue → Type 0) → Type 0
SaysOfCuts test Says = (c d : Cut VersionValue) → (test c d ≡ true) ↔ Says c d

-- whether the ends before it pass the first test, and those after it the second
abbrev is_chosen : EndOf → CutTest → CutTest → List Comparator → Cut VersionValue → List Comparator → Bool
is_chosen end earlier later before chosen after =
    list_all (λ (other : Comparator). earlier (end other) chosen) before &&
    list_all (λ (other : Comparator). later (end other) chosen) after

-- the first end that is so, of the comparators after those before
abbrev chosen_end : EndOf → CutTest → CutTest → List Comparator → List Comparator → Option (Cut VersionValue)
chosen_end end earlier later before [] = None
chosen_end end earlier later before (c ∷ after) =
    if is_chosen end earlier later before (end c) after then Some (end c) else
    chosen_end end earlier later (before ++ c ∷ []) after

chosen-by : (end : EndOf) (earlier later : CutTest) (Earlier Later : Cut VersionValue → Cut VersionValue → Type 0)
    → SaysOfCuts earlier Earlier → SaysOfCuts later Later → (before rest : List Comparator) (chosen : Cut VersionValue)
    → chosen_end end earlier later before rest ≡ Some chosen → IsChosenEnd end Earlier Later (before ++ rest) chosen
chosen-by end earlier later Earlier Later is_earlier is_later before [] chosen read = cc read
chosen-by end earlier later Earlier Later is_earlier is_later before (c ∷ after) chosen read =
    elim (cases_Bool (is_chosen end earlier later before (end c) after)) [
      | inl passes ↦
          let found : Some (end c) ≡ Some chosen = rw passes at read in
          let same : end c ≡ chosen = cc found in
          let parts = and_parts _ _ passes in
          subst (IsChosenEnd end Earlier Later (before ++ c ∷ after)) same (record {
            before = before;
            span = c;
            after = after;
            parts = refl;
            end_of = refl;
            earlier = (all-iff _ _ (λ other. is_earlier (end other) (end c)) before).0 parts.0;
            later = (all-iff _ _ (λ other. is_later (end other) (end c)) after).0 parts.1;
          })
      | inr fails ↦
          subst (λ (l : List Comparator). IsChosenEnd end Earlier Later l chosen) (append_assoc before (c ∷ []) after)
          (chosen-by end earlier later Earlier Later is_earlier is_later (before ++ c ∷ []) after chosen
          (rw fails at read))
    ]

-- at most, and below
abbrev cut_at_most : CutTest
cut_at_most c d = is_le (cut_cmp version_cmp c d)

abbrev cut_below : CutTest
cut_below c d = is_lt (cut_cmp version_cmp c d)

at_most-says : SaysOfCuts cut_at_most (λ c d. IsCutAtMost version_cmp c d)
at_most-says c d = (at_most-from_le version_cmp c d, le-from_at_most version_cmp c d)

below-says : SaysOfCuts cut_below (λ c d. IsCutBelow version_cmp c d)
below-says c d = (below-from_lt version_cmp c d, lt-from_below version_cmp c d)

-- the last of the greatest lower ends
abbrev lower_of : List Comparator → Option (Cut VersionValue)
lower_of comparators = chosen_end (λ (c : Comparator). c.lower) cut_at_most cut_below [] comparators

lower-by : (comparators : List Comparator) (lower : Cut VersionValue) → lower_of comparators ≡ Some lower
    → IsLastGreatestLower version_cmp comparators lower
lower-by comparators lower read =
    chosen-by (λ (c : Comparator). c.lower) cut_at_most cut_below (λ c d. IsCutAtMost version_cmp c d)
    (λ c d. IsCutBelow version_cmp c d) at_most-says below-says [] comparators lower read

-- the first of the least upper ends
abbrev upper_of : List Comparator → Option (Cut VersionValue)
upper_of comparators =
    chosen_end (λ (c : Comparator). c.upper) (λ c d. cut_below d c) (λ c d. cut_at_most d c) [] comparators

upper-by : (comparators : List Comparator) (upper : Cut VersionValue) → upper_of comparators ≡ Some upper
    → IsFirstLeastUpper version_cmp comparators upper
upper-by comparators upper read =
    chosen-by (λ (c : Comparator). c.upper) (λ c d. cut_below d c) (λ c d. cut_at_most d c)
    (λ c d. IsCutBelow version_cmp d c) (λ c d. IsCutAtMost version_cmp d c) (λ c d. below-says d c)
    (λ c d. at_most-says d c) [] comparators upper read

-- ---- the sets of a text

-- what alternatives write, in their order
abbrev pub Sets : Type 0
Sets = List (Ends VersionValue)

-- the set between two ends, before the others, if its lower end lies in all of the comparators
abbrev set_before : List Comparator → Option (Cut VersionValue) → Option (Cut VersionValue) → Sets → Option Sets
set_before comparators None upper sets = None
set_before comparators (Some lower) None sets = None
set_before comparators (Some lower) (Some upper) sets =
    if lies_in lower comparators then Some (span_between lower upper ∷ sets) else None

-- no set, where the comparators cross, or that one
abbrev sets_before : List Comparator → Option Sets → Option Sets
sets_before comparators None = None
sets_before comparators (Some sets) =
    if are_crossed comparators then Some sets else
    set_before comparators (lower_of comparators) (upper_of comparators) sets

-- the sets of alternatives
abbrev sets_of : List (List Comparator) → Option Sets
sets_of [] = Some []
sets_of (comparators ∷ alternatives) = sets_before comparators (sets_of alternatives)

set-by : (comparators : List Comparator) (lower upper : Option (Cut VersionValue))
    (alternatives : List (List Comparator)) (sets all : Sets) → lower_of comparators ≡ lower
    → upper_of comparators ≡ upper → AreSetsOf alternatives sets
    → set_before comparators lower upper sets ≡ Some all → AreSetsOf (comparators ∷ alternatives) all
set-by comparators None upper alternatives sets all low up more read = cc read
set-by comparators (Some lower) None alternatives sets all low up more read = cc read
set-by comparators (Some lower) (Some upper) alternatives sets all low up more read =
    elim (cases_Bool (lies_in lower comparators)) [
      | inl lies ↦
          let found : Some (span_between lower upper ∷ sets) ≡ Some all = rw lies at read in
          let same : span_between lower upper ∷ sets ≡ all = cc found in
          subst (AreSetsOf (comparators ∷ alternatives)) same
          (one_more comparators alternatives (span_between lower upper) sets (gives-by comparators lower lies)
          (record { lower = lower-by comparators lower low; upper = upper-by comparators upper up }) more)
      | inr lies ↦ let nothing : None ≡ Some all = rw lies at read in cc nothing
    ]

sets-more : (comparators : List Comparator) (alternatives : List (List Comparator)) (sets : Option Sets)
    (all : Sets)
    → ((some : Sets) → sets ≡ Some some → AreSetsOf alternatives some)
    → sets_before comparators sets ≡ Some all → AreSetsOf (comparators ∷ alternatives) all
sets-more comparators alternatives None all more read = cc read
sets-more comparators alternatives (Some sets) all more read = elim (cases_Bool (are_crossed comparators)) [
  | inl crossed ↦
      let found : Some sets ≡ Some all = rw crossed at read in
      let same : sets ≡ all = cc found in
      subst (AreSetsOf (comparators ∷ alternatives)) same
      (no_more comparators alternatives sets (none-by comparators crossed) (more sets refl))
  | inr not_crossed ↦
      set-by comparators (lower_of comparators) (upper_of comparators) alternatives sets all refl refl (more sets refl)
      (rw not_crossed at read)
]

sets-by : (alternatives : List (List Comparator)) (sets : Sets) → sets_of alternatives ≡ Some sets
    → AreSetsOf alternatives sets
sets-by [] sets read =
    let same : [] ≡ sets = cc read in
    subst (AreSetsOf []) same none
sets-by (comparators ∷ alternatives) sets read =
    sets-more comparators alternatives (sets_of alternatives) sets (sets-by alternatives) read

-- the sets of alternatives that are there
abbrev some_sets_of : Option (List (List Comparator)) → Option Sets
some_sets_of None = None
some_sets_of (Some alternatives) = sets_of alternatives

-- and of a text
unfoldable pub sets_in : List ℕ → Option Sets
unfolding alternatives_in
sets_in text = some_sets_of (alternatives_in text)

some-sets-by : (text : List ℕ) (alternatives : Option (List (List Comparator))) (sets : Sets)
    → alternatives_in text ≡ alternatives → some_sets_of alternatives ≡ Some sets → AreSetsOfText text sets
some-sets-by text None sets written read = cc read
some-sets-by text (Some alternatives) sets written read = record {
  alternatives = alternatives;
  written = written-by text alternatives written;
  merged = sets-by alternatives sets read;
}

pub merged-by : (text : List ℕ) (sets : Sets) → sets_in text ≡ Some sets → AreSetsOfText text sets
unfolding sets_in
merged-by text sets read = some-sets-by text (alternatives_in text) sets refl read

-- ---- tables

-- a text, the sets that it writes, and their print
abbrev pub Row : Type 0
Row = List ℕ × List (Ends VersionValue) × List ℕ

pub record AreComputed (rows : List Row) : Type 0 where
  pub sets : map (λ (row : Row). sets_in row.0) rows ≡ map (λ (row : Row). Some row.1) rows
  pub shown : map (λ (row : Row). range_text row.1) rows ≡ map (λ (row : Row). row.2) rows

abbrev pub AreMerged : List Row → Type 0
AreMerged rows = AllByRecursion (λ (row : Row). AreSetsOfText row.0 row.1 × (range_text row.1 ≡ row.2)) rows

pub all-merged : (rows : List Row) → AreComputed rows → AreMerged rows
all-merged [] computed = tt
all-merged (row ∷ rows) computed =
    let sets = first-same (sets_in row.0) (Some row.1) _ _ computed.sets in
    let shown = first-same (range_text row.1) row.2 _ _ computed.shown in
    ((merged-by row.0 row.1 sets.0, shown.0), all-merged rows (record { sets = sets.1; shown = shown.1 }))

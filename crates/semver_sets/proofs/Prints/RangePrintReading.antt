-- The print of a range is divided at `||` into the prints of its sets, and so read as an equal range.
use native.Mathlib.Omega.{arith}
use Rattle.std.proofs.Common.{◌≢◌, ℕ, List, [], ◌∷◌, map, refl, subst}
use Rattle.std.specs.List.{AllByRecursion}
use Rattle.semver_cuts.specs.Ends.{Ends}
use Rattle.semver_sets.specs.Comparator.{Comparator}
use Rattle.semver_sets.specs.Division.{AreLaterAlternatives, IsPieces, IsWritten}
use Rattle.semver_sets.specs.Merging.{AreSetsOf, AreSetsOfText, none, one_more}
use Rattle.semver_sets.specs.RangeEquality.{AreSameCuts}
use Rattle.semver_sets.specs.RangePrint.{range_text, set_text}
use Rattle.semver_sets.specs.RangeSets.{IsRangeSet, IsRangeValue}
use Rattle.semver_texts.specs.Version.{VersionValue}
use Rattle.semver_sets.specs.Lemmas.Merging.{merged-gives}
use Rattle.semver_sets.proofs.Words.NoBars.{no_bars-of_none, no_end-of_none}
use Rattle.semver_sets.proofs.Sets.SetLemmas.{empty-from_refused, one-merging}
use Rattle.semver_sets.specs.ReadingBack.{IsPlainlyBounded, IsReadAsEqual, RangeReadsBack}
use Rattle.semver_sets.proofs.Prints.SetPrintReading.{IsReadAlike, set-read}
use Rattle.semver_sets.proofs.Prints.WordPrintReading.{solid-begins}

-- the print of the set is read as a set of the same cuts
abbrev IsReadSet : Ends VersionValue → Type 0
IsReadSet set = IsReadAlike (set_text set) set

sets-read : (sets : List (Ends VersionValue)) → AllByRecursion IsRangeSet sets → AllByRecursion IsPlainlyBounded sets
    → AllByRecursion IsReadSet sets
sets-read [] is plainly = tt
sets-read (set ∷ sets) is plainly = (set-read set is.0 plainly.0, sets-read sets is.1 plainly.1)

-- the pieces of the print are the prints of the sets
pieces-of_print : (set : Ends VersionValue) (sets : List (Ends VersionValue)) → AllByRecursion IsReadSet (set ∷ sets)
    → IsPieces (range_text (set ∷ sets)) (map set_text (set ∷ sets))
pieces-of_print set [] read = (refl, no_bars-of_none (set_text set) read.0.no_bar)
pieces-of_print set (next ∷ sets) read =
    grind (arith, no_bars-of_none, no_end-of_none, pieces-of_print next sets read.1)

-- the alternatives of prints, and the sets that they give: these have the cuts of the sets that were printed
record AreReadSets (sets : List (Ends VersionValue)) : Type 0 where
  pub alternatives : List (List Comparator)
  pub others : List (Ends VersionValue)
  pub later : AreLaterAlternatives (map set_text sets) alternatives
  pub merged : AreSetsOf alternatives others
  pub same : AreSameCuts others sets

-- one more set
gives-more : (set : Ends VersionValue) (alternatives : List (List Comparator)) (others : List (Ends VersionValue))
    (read : IsReadSet set) → AreSetsOf alternatives others
    → AreSetsOf (read.comparators ∷ alternatives) (read.read ∷ others)
gives-more set alternatives others read merged =
    one_more read.comparators alternatives read.read others
    ((merged-gives read.comparators read.read read.merged).1 read.holds) read.merged merged

later-read : (sets : List (Ends VersionValue)) → AllByRecursion IsReadSet sets → AreReadSets sets
later-read [] read = record { alternatives = []; others = []; later = tt; merged = none; same = tt }
later-read (set ∷ sets) read =
    let more = later-read sets read.1 in
    let first = read.0 in
    record {
      alternatives = first.comparators ∷ more.alternatives;
      others = first.read ∷ more.others;
      later = (
        record {
          blanks = [];
          others = set_text set;
          whole = refl;
          blank = refl;
          blanks_end = solid-begins (set_text set) first.begins;
          alternative = first.alternative;
        },
        more.later,
      );
      merged = gives-more set more.alternatives more.others first more.merged;
      same = (first.same, more.same);
    }

-- the text writes these sets, and no others
equal-from_sets : (text : List ℕ) (sets others : List (Ends VersionValue)) → AreSetsOfText text others → others ≢ []
    → AreSameCuts others sets → IsReadAsEqual text sets
equal-from_sets text sets others are some same = record {
  accepted = λ refused. some (empty-from_refused text others are refused);
  equal = λ found is. subst (λ (l : List (Ends VersionValue)). AreSameCuts l sets)
      (one-merging text others found are is)
      same;
}

-- a list with a first element is not empty
some-sets : (set : Ends VersionValue) (sets : List (Ends VersionValue)) → set ∷ sets ≢ []
some-sets set sets e = cc e

range-read : (sets : List (Ends VersionValue)) → sets ≢ [] → AllByRecursion IsReadSet sets
    → IsReadAsEqual (range_text sets) sets
range-read [] some read = absurd (some refl)
range-read (set ∷ sets) some read =
    let more = later-read sets read.1 in
    let first = read.0 in
    let written : IsWritten (range_text (set ∷ sets)) (first.comparators ∷ more.alternatives) = record {
      pieces = map set_text (set ∷ sets);
      divided = pieces-of_print set sets read;
      read = (first.alternative, more.later);
    } in
    let are : AreSetsOfText (range_text (set ∷ sets)) (first.read ∷ more.others) = record {
      alternatives = first.comparators ∷ more.alternatives;
      written = written;
      merged = gives-more set more.alternatives more.others first more.merged;
    } in
    equal-from_sets (range_text (set ∷ sets)) (set ∷ sets) (first.read ∷ more.others) are
    (some-sets first.read more.others) (first.same, more.same)

-- a range reads back, where its sets are plainly bounded
pub range-reads_back : (sets : List (Ends VersionValue)) → IsRangeValue sets → RangeReadsBack sets
range-reads_back sets is plainly = range-read sets is.some (sets-read sets is.each plainly)

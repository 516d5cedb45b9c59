-- The sets of a range text, as they are read.
use native.Mathlib.Omega.{arith}
use Rattle.std.proofs.Common.{◌≡◌, ◌≢◌, ◌∙◌, ℕ, List, [], ◌∷◌, Option, Some, None, Result, Ok, Err, ap, refl, subst}
use Rattle.std.proofs.Common.{sym}
use Rattle.std.specs.Prelude.{IfSome, OnOk}
use Rattle.semver_cuts.specs.Ends.{Ends}
use Rattle.semver_sets.specs.Comparator.{Comparator}
use Rattle.semver_sets.specs.Meaning.{IsRefused}
use Rattle.semver_sets.specs.Merging.{AreSetsOf, AreSetsOfText, none}
use Rattle.semver_sets.specs.RangeSets.{IsRangeValue, sets_of_some, sets_seen}
use Rattle.semver_sets.specs.declared.read.Unread.{Unread}
use Rattle.semver_sets.specs.declared.set_list.Sets.{Sets}
use Rattle.semver_texts.specs.Version.{VersionValue}
use Rattle.semver_sets.specs.Private.PieceReading.{piece_at}
use Rattle.semver_sets.specs.Private.RangeViews.{IsReadResult, IsSetOfAlternative}
use Rattle.semver_sets.specs.Private.RangeViews.{listed_set}
use Rattle.semver_sets.proofs.Ranges.AlternativeLemmas.{Reads, reads-end, reads-start}
use Rattle.semver_sets.proofs.Ranges.RangeBounds.{text-bounded}
use Rattle.semver_sets.proofs.Sets.SetLemmas.{empty-from_refused, reads-set, refused-from_empty}

-- ---- one alternative

-- it gives a set or none
pub one-read : (text piece : List ℕ) (set : Option (Ends VersionValue)) → (piece, None) ≡ piece_at text
    → IsSetOfAlternative piece set → AreSetsOfText text (listed_set set)
one-read text piece set divided is_set =
    let read = reads-set piece [] [] set none is_set in
    let reads = reads-start text piece None read.comparators (sym divided) read.alternative in
    record {
      alternatives = read.comparators ∷ [];
      written = reads-end text
          (read.comparators ∷ []) reads;
      merged = read.merged;
    }

-- a set that it gives is one that a range can have
pub one-value : (text : List ℕ) (set : Ends VersionValue) → AreSetsOfText text (set ∷ []) → IsRangeValue (set ∷ [])
one-value text set sets = text-bounded text (set ∷ []) sets (λ e. cc e)

-- where it gives none, the text is refused
pub none-read : (text piece : List ℕ) → (piece, None) ≡ piece_at text → IsSetOfAlternative piece None → IsRefused text
none-read text piece divided is_set = refused-from_empty text [] (one-read text piece None divided is_set) refl

-- ---- all alternatives

pub all-read : (text : List ℕ) (done : List (List Comparator)) (sets : List (Ends VersionValue))
    (left : Option (List ℕ))
    → Reads text done left → left ≡ None → AreSetsOf done sets → AreSetsOfText text sets
all-read text done sets left reads none_left merged = grind (arith, reads-end)

-- the sets that were gathered, if there are some
pub some-gathered : (text : List ℕ) (sets : List (Ends VersionValue)) (answer : Option Sets) (found : Sets)
    → AreSetsOfText text sets → sets_of_some answer ≡ sets → IfSome answer (λ s. sets_seen s ≢ []) → answer ≡ Some found
    → AreSetsOfText text (sets_seen found) × IsRangeValue (sets_seen found)
some-gathered text sets answer found are same some is =
    let here : sets_seen found ≡ sets = sym (ap sets_of_some is) ∙ same in
    let read : AreSetsOfText text (sets_seen found) = subst (AreSetsOfText text) (sym here) are in (
      read,
      text-bounded text (sets_seen found) read
          (subst (λ (a : Option Sets). IfSome a (λ s. sets_seen s ≢ [])) is some),
    )

-- and if there are none
pub none-gathered : (text : List ℕ) (sets : List (Ends VersionValue)) (answer : Option Sets) → AreSetsOfText text sets
    → sets_of_some answer ≡ sets → answer ≡ None → IsRefused text
none-gathered text sets answer are same is = refused-from_empty text sets are (sym same ∙ ap sets_of_some is)

-- ---- a text that is read is not refused

pub not-refused : (text : List ℕ) (sets : List (Ends VersionValue)) → AreSetsOfText text sets → IsRangeValue sets
    → ¬ IsRefused text
not-refused text sets are value refused = value.some (empty-from_refused text sets are refused)

pub accepted : (text : List ℕ) (result : Result Sets Unread) → IsReadResult text result
    → OnOk result (¬ IsRefused text)
accepted text (Ok sets) read = not-refused text (sets_seen sets) read.0 read.1
accepted text (Err unread) read = tt

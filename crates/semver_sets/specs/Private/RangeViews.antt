-- What the private functions compute that make the sets of a range.
use Rattle.std.specs.Prelude.{◌≡◌, ℕ, Bool, List, [], ◌∷◌, ◌++◌, if◌then◌else◌, Option, Some, None}
use Rattle.std.specs.Prelude.{Result, Ok, Err}
use Rattle.semver_cuts.specs.declared.cut.Cut.{Cut}
use Rattle.semver_cuts.specs.Ends.{Ends, IsCutBelow, span_between}
use Rattle.semver_sets.specs.Comparator.{Comparator}
use Rattle.semver_texts.specs.Comparison.{version_cmp}
use Rattle.semver_sets.specs.Division.{HasBars, IsAlternative}
use Rattle.semver_sets.specs.Meaning.{GiveSet, IsRefused}
use Rattle.semver_sets.specs.Merging.{AreSetsOfText, IsSetOf}
pub use Rattle.semver_sets.specs.Merging.{IsCommonSpan, IsSpanOf}
use Rattle.semver_sets.specs.RangeSets.{IsRangeValue, sets_seen}
use Rattle.semver_sets.specs.PartialText.{plain_partial}
use Rattle.semver_texts.specs.Version.{VersionValue}
use Rattle.semver_texts.specs.Characters.{BeginsWith, is_digit}
use Rattle.semver_sets.specs.Private.PieceReading.{piece_at}
use Rattle.semver_sets.specs.Private.WordViews.{listed}
use Rattle.semver_sets.specs.Private.WordReading.{read_partial}
use Rattle.semver_sets.specs.FullTexts.{AreInLimit}
use Rattle.semver_sets.specs.declared.read.Unread.{Unread}
use Rattle.semver_sets.specs.declared.read.Unread.TheVariants.{OutOfMemory, Refused}
use Rattle.semver_sets.specs.declared.set_list.Sets.{Sets}

-- the common span before and after one more word, which narrows it if it gives a comparator
abbrev pub IsNarrowed : Option Comparator → Option Comparator → Option Comparator → Type 0
IsNarrowed before word after = (comparators : List Comparator) → IsCommonSpan comparators before
    → IsCommonSpan (comparators ++ listed word) after

-- the common span of the comparators so far, as a contract sees it: none before the first
abbrev pub common_seen : Bool → Cut VersionValue → Cut VersionValue → Option Comparator
common_seen found lower upper = if found then Some (span_between lower upper) else None

-- the common span of the comparators of an alternative
abbrev pub IsSpanOfAlternative : List ℕ → Option Comparator → Type 0
IsSpanOfAlternative text common = (comparators : List Comparator) × IsAlternative text comparators
    × IsCommonSpan comparators common

-- the set of an alternative, or none if its comparators give none
pub data IsSetOfAlternative (text : List ℕ) (set : Option (Ends VersionValue)) : Type 0 where
  given : (comparators : List Comparator) (ends : Ends VersionValue) → IsAlternative text comparators
      → GiveSet comparators
      → IsSetOf comparators ends → set ≡ Some ends → IsSetOfAlternative text set
  not_given : (comparators : List Comparator) → IsAlternative text comparators → ¬ GiveSet comparators → set ≡ None
      → IsSetOfAlternative text set

-- the text is a single alternative with a single comparator, which contains a cut: `^1.2.3`
pub record IsOnlyComparator (text : List ℕ) (comparator : Comparator) : Type 0 where
  pub alternative : IsAlternative text (comparator ∷ [])
  pub no_bars : ¬ HasBars text
  pub below : IsCutBelow version_cmp comparator.lower comparator.upper

-- the whole text is three numbers, as a partial
pub record IsFullNumbers (text : List ℕ) (major minor patch : ℕ) : Type 0 where
  pub digit : BeginsWith is_digit text
  pub read : Some (plain_partial (Some major) (Some minor) (Some patch), []) ≡ read_partial text
  pub limit : AreInLimit major minor patch

-- the set as a list, or the empty list
abbrev pub listed_set : Option (Ends VersionValue) → List (Ends VersionValue)
listed_set None = []
listed_set (Some set) = set ∷ []

-- the sets with those of one more alternative
abbrev pub IsOneMore : List ℕ → List (Ends VersionValue) → List (Ends VersionValue) → Type 0
IsOneMore text before after = (set : Option (Ends VersionValue)) × IsSetOfAlternative text set
    × (after ≡ before ++ listed_set set)

-- the result of reading a text: its sets, with the properties of every range; or that the text is refused; or that an
-- allocation failed
abbrev pub IsReadResult : List ℕ → Result Sets Unread → Type 0
IsReadResult text (Ok sets) = AreSetsOfText text (sets_seen sets) × IsRangeValue (sets_seen sets)
IsReadResult text (Err Refused) = IsRefused text
IsReadResult text (Err OutOfMemory) = Unit {0}

-- the result of reading a text with these two parts before and after its first `||`
abbrev pub IsReadResultOf : List ℕ → List ℕ → Result Sets Unread → Type 0
IsReadResultOf first others result = (text : List ℕ) → (first, Some others) ≡ piece_at text → IsReadResult text result

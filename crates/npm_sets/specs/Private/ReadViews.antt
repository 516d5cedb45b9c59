-- What a contract sees of the results of the private readers.
use Rattle.std.specs.Prelude.{◌≡◌, ◌≤◌, ◌+◌, ℕ, Bool, true, false, List, [], ◌∷◌, ◌++◌, Option, Some, None}
use Rattle.std.specs.Prelude.{◌==◌, ◌&&◌, ◌||◌, Result, Ok, Err}
use Rattle.std.specs.Borrow.{Bor}
use Rattle.std.specs.List.{AllByRecursion}
use Rattle.semver_cuts.specs.Ends.{Ends}
use Rattle.semver_texts.specs.Characters.{caret, tilde}
use Rattle.semver_texts.specs.Reading.{Read}
use Rattle.semver_texts.specs.Version.{VersionValue, without_build}
use Rattle.semver_texts.specs.declared.TheConstants.{MAX_SAFE_INTEGER}
use Rattle.semver_texts.specs.declared.parse.fault.Fault.{Fault}
use Rattle.semver_sets.specs.Comparator.{Comparator}
use Rattle.semver_sets.specs.Lemmas.Comparators.{IsReadEnds}
use Rattle.semver_sets.specs.Merging.{AreSetsOf, IsCommonSpan, IsNarrowedTo}
use Rattle.semver_sets.specs.PartialText.{Partial}
use Rattle.semver_sets.specs.WordEnds.{ends_seen, partial_seen, written}
use Rattle.semver_sets.specs.declared.read.full.FullLead.{FullLead}
use Rattle.semver_sets.specs.declared.read.full.FullLead.TheVariants as FullLeads
use Rattle.semver_sets.specs.declared.read.Unread.{Unread}
use Rattle.semver_sets.specs.declared.read.Unread.TheVariants.{OutOfMemory, Refused}
use Rattle.npm_sets.specs.NpmMeaning.{is_unknown}
use Rattle.npm_sets.specs.PartialTexts.{number_component}
use Rattle.npm_sets.specs.WordTexts.{begins_component, is_mark}
use Rattle.semver_sets.specs.declared.word.ends.WordEnds.{WordEnds}
use Rattle.semver_sets.specs.declared.word.ends.WordCut.{WordCut}
use Rattle.semver_sets.specs.declared.word.ends.WordCut.TheVariants as WordCuts
use Rattle.semver_sets.specs.declared.word.ends.WordVersion.{WordVersion}
use Rattle.semver_sets.specs.declared.word.ends.WordVersion.TheVariants as WordVersions
use Rattle.semver_sets.specs.declared.partial.Partial.{Partial as CodePartial}

-- ---- partials

-- a partial and the rest
abbrev pub read_partial_seen : Result (CodePartial × Bor (List ℕ)) Fault → Read Partial
read_partial_seen (Ok r) = Ok (partial_seen r.0, r.1.now)
read_partial_seen (Err fault) = Err fault

abbrev pub result_seen : Result CodePartial Fault → Result Partial Fault
result_seen (Ok p) = Ok (partial_seen p)
result_seen (Err fault) = Err fault

-- `>`, `<`, `~` and `^`: with these begins no partial
abbrev pub is_sign : ℕ → Bool
is_sign b = (b == 62) || (b == 60) || (b == tilde) || (b == caret)

-- with every other character begins no word that is a comparator
abbrev pub begins_comparator : ℕ → Bool
begins_comparator b = begins_component b || is_mark b || is_sign b

-- a text that is there or not
abbrev pub some_seen : Option (Bor (List ℕ)) → Option (List ℕ)
some_seen None = None
some_seen (Some r) = Some r.now

-- ---- ends

-- three numbers with the prerelease that a text of extras writes
abbrev pub full_version : ℕ → ℕ → ℕ → List ℕ → VersionValue
full_version major minor patch extras = without_build (written major minor patch extras)

-- ---- lists

-- `true` if the list has an element
abbrev pub has_some : {X : Type 0} → List X → Bool
has_some [] = false
has_some (x ∷ xs) = true

-- the elements before those of a list, if there is one
abbrev pub prepend : {X : Type 0} → List X → Option (List X) → Option (List X)
prepend before None = None
prepend before (Some after) = Some (before ++ after)

-- ---- numbers of ends

-- each number is at most one above the limit
abbrev pub AreSmall : ℕ → ℕ → ℕ → Type 0
AreSmall major minor patch =
    (major ≤ MAX_SAFE_INTEGER + 1) × (minor ≤ MAX_SAFE_INTEGER + 1) × (patch ≤ MAX_SAFE_INTEGER + 1)

abbrev pub IsSmallVersion : WordVersion → Type 0
IsSmallVersion (WordVersions.Release major minor patch) = AreSmall major minor patch
IsSmallVersion (WordVersions.Least major minor patch) = AreSmall major minor patch
IsSmallVersion (WordVersions.Full major minor patch extras) = AreSmall major minor patch
IsSmallVersion (WordVersions.Bare major minor patch extras) = AreSmall major minor patch

abbrev pub IsSmallCut : WordCut → Type 0
IsSmallCut WordCuts.Start = Unit {0}
IsSmallCut (WordCuts.Before v) = IsSmallVersion v
IsSmallCut (WordCuts.After v) = IsSmallVersion v
IsSmallCut WordCuts.End = Unit {0}

pub record AreSmallEnds (e : WordEnds) : Type 0 where
  pub lower : IsSmallCut e.lower
  pub upper : IsSmallCut e.upper

-- ---- results of reading

-- the result of reading a word: `true` if its comparator was merged, and `false` if the word is ignored
abbrev pub IsWordRead : Bool → Result Comparator Fault → Option Comparator → Option Comparator → Result Bool Unread
    → Type 0
IsWordRead loose word before after (Ok true) =
    (c : Comparator) × (word ≡ Ok c) × IsNarrowedTo before c after × IsReadEnds c
IsWordRead loose word before after (Ok false) =
    (fault : Fault) × (word ≡ Err fault) × ((loose && is_unknown fault) ≡ true) × (after ≡ before)
IsWordRead loose word before after (Err Refused) =
    (fault : Fault) × (word ≡ Err fault) × ((loose && is_unknown fault) ≡ false)
IsWordRead loose word before after (Err OutOfMemory) = Unit {0}

-- these comparators were read and merged, and `found` tells whether there are any
pub record AreRead (value : Option (List Comparator)) (common : Option Comparator) (found : Bool) : Type 0 where
  pub comparators : List Comparator
  pub value_is : value ≡ Some comparators
  pub common_is : IsCommonSpan comparators common
  pub found_is : found ≡ has_some comparators
  pub bounded : AllByRecursion IsReadEnds comparators

-- the result of reading a piece or its words
abbrev pub IsRead : Option (List Comparator) → Option Comparator → Result Bool Unread → Type 0
IsRead value common (Ok found) = AreRead value common found
IsRead value common (Err Refused) = value ≡ None
IsRead value common (Err OutOfMemory) = Unit {0}

-- an alternative, if there are comparators
abbrev pub listed : List Comparator → List (List Comparator)
listed [] = []
listed (c ∷ comparators) = (c ∷ comparators) ∷ []

-- the sets before and after the piece with these comparators
pub record IsAdded (value : Option (List Comparator)) (before after : List (Ends VersionValue)) (found : Bool)
    : Type 0 where
  pub comparators : List Comparator
  pub value_is : value ≡ Some comparators
  pub found_is : found ≡ has_some comparators
  pub bounded : AllByRecursion IsReadEnds comparators
  pub more : List (Ends VersionValue)
  pub merged : AreSetsOf (listed comparators) more
  pub added : after ≡ before ++ more

-- the result of adding the set of a piece
abbrev pub IsAddedBy : Option (List Comparator) → List (Ends VersionValue) → List (Ends VersionValue)
    → Result Bool Unread → Type 0
IsAddedBy value before after (Ok found) = IsAdded value before after found
IsAddedBy value before after (Err Refused) = value ≡ None
IsAddedBy value before after (Err OutOfMemory) = Unit {0}

-- the comparator of a hyphen range, if there is one, and its numbers
abbrev pub hyphen_seen : Option WordEnds → Option Comparator
hyphen_seen None = None
hyphen_seen (Some e) = Some (ends_seen e)

-- the two sides
abbrev pub sides_seen : Option (Bor (List ℕ) × Bor (List ℕ)) → Option (List ℕ × List ℕ)
sides_seen None = None
sides_seen (Some r) = Some (r.0.now, r.1.now)

-- ---- full texts

-- what is written before the version of a full text
abbrev pub full_mark : FullLead → List ℕ
full_mark FullLeads.Caret = caret ∷ []
full_mark FullLeads.Tilde = tilde ∷ []
full_mark FullLeads.Nothing = []

-- a number, and the text after it
abbrev pub IsNumberBefore : Bool → List ℕ → ℕ → List ℕ → Type 0
IsNumberBefore loose text number rest = Ok (Some number, rest) ≡ number_component loose text

-- The laws of range texts. They are why one can say "the words of a text" and "the sets of a text".
use Rattle.std.specs.Prelude.{◌≡◌, ◌≢◌, ◌↔◌, ℕ, List, [], Option}
use Rattle.semver_cuts.specs.Ends.{Ends}
use Rattle.semver_sets.specs.Comparator.{Comparator}
use Rattle.semver_sets.specs.Division.{IsSimpleText, IsWritten}
use Rattle.semver_sets.specs.HyphenRanges.{IsHyphenText}
use Rattle.semver_sets.specs.Meaning.{IsRefused, RangeAdmits, TextAdmits}
use Rattle.semver_sets.specs.RangeSets.{IsRangeValue}
use Rattle.semver_texts.specs.Version.{VersionValue}
use Rattle.semver_sets.specs.PartialText.{IsPartialText, Partial}

-- the text can be divided into alternatives and words
abbrev pub HasWriting : List ℕ → Type 0
HasWriting text = (alternatives : List (List Comparator)) × IsWritten text alternatives

-- and in one way only
abbrev pub IsWrittenOneWay : List ℕ → Type 0
IsWrittenOneWay text = (one other : List (List Comparator)) → IsWritten text one → IsWritten text other → one ≡ other

-- the text is at most one partial
abbrev pub IsOnePartial : List ℕ → Type 0
IsOnePartial text = (one other : Partial) → IsPartialText text one → IsPartialText text other → one ≡ other

-- as a hyphen range, the text gives at most one comparator
abbrev pub IsOneHyphenRange : List ℕ → Type 0
IsOneHyphenRange text = (one other : Option Comparator) → IsHyphenText text one → IsHyphenText text other → one ≡ other

-- as a word of another kind, the text gives at most one comparator
abbrev pub IsOneSimpleWord : List ℕ → Type 0
IsOneSimpleWord text = (one other : Option Comparator) → IsSimpleText text one → IsSimpleText text other → one ≡ other

-- the text is refused exactly if it has no set, and else admits what a set admits
pub record MeansItsSets (text : List ℕ) (sets : List (Ends VersionValue)) : Type 0 where
  pub refused : IsRefused text ↔ (sets ≡ [])
  pub admits : (v : VersionValue) → RangeAdmits sets v ↔ TextAdmits text v
  pub holds : sets ≢ [] → IsRangeValue sets

-- How the output for a list of pairs is put together.
use Rattle.std.specs.Prelude.{◌≡◌, ◌↔◌, ℕ, List, [], ◌∷◌, ◌++◌, Bool, true, Option, Result, Ok, Err}
use Rattle.std.specs.Io.KnownBytes.{Appends}
use Rattle.std.specs.Str.Lines.{strip_carriage_return}
use Rattle.semver_pairs.specs.Answer.{IsAnswer, IsGoodRange}
use Rattle.semver_pairs.specs.declared.run_error.RunError.{RunError}
use Rattle.semver_pairs.specs.declared.run_error.RunError.TheVariants.{Endless, Memory, Read, Write}
use Rattle.semver_pairs.specs.Output.{AreAnswers}
use Rattle.semver_pairs.specs.Pairs.{pairs_read}
use Rattle.semver_sets.specs.Meaning.{TextAdmits}
use Rattle.semver_texts.specs.Version.{VersionValue}
use Rattle.semver_texts.specs.Characters.{newline}

-- the range line is a good one, and exactly the versions that its text admits are admitted
abbrev pub IsReadRange : (line : List ℕ) → (Admits : VersionValue → Type 0) → Type 0
IsReadRange line Admits = IsGoodRange line × ((v : VersionValue) → Admits v ↔ TextAdmits line v)

-- the line is the output for a range line and a version line, with its newline byte
abbrev pub IsAnswerLine : (range version line : List ℕ) → Type 0
IsAnswerLine range version line = (answer : List ℕ) × IsAnswer range version answer × (line ≡ answer ++ (newline ∷ []))

-- The output for the pairs in the bytes before the rest. If the output for the rest and whatever follows it is added,
-- the result is the output for all of the bytes and whatever follows.
pub record AnswersUpTo (bytes rest added : List ℕ) : Type 0 where
  pub go_on : (is_end : Bool) (later more : List ℕ) → AreAnswers (pairs_read is_end (rest ++ later)) more
      → AreAnswers (pairs_read is_end (bytes ++ later)) (added ++ more)

-- The output for an ended range line and a version line, followed by the output for the pairs in the bytes before the
-- rest.
pub record AnswersFrom (range version bytes rest added : List ℕ) : Type 0 where
  pub first : List ℕ
  pub others : List ℕ
  pub answer : IsAnswerLine (strip_carriage_return range) version first
  pub later : AnswersUpTo bytes rest others
  pub both : added ≡ first ++ others

-- Output was added to the output that waits. The first part of the two together was written, and the other is left.
pub record Moves (contents contents_new : Option (List ℕ)) (waiting added left : List ℕ) : Type 0 where
  pub written : List ℕ
  pub put : Appends contents contents_new written
  pub all : waiting ++ added ≡ written ++ left

-- The output for the pairs in the bytes before the rest was added.
pub record AnswersPast (bytes rest : List ℕ) (contents contents_new : Option (List ℕ)) (waiting left : List ℕ) : Type 0
  where
    pub added : List ℕ
    pub answers : AnswersUpTo bytes rest added
    pub moves : Moves contents contents_new waiting added left

-- The output for the pairs before some rest was added, and the first part of what waits was written.
pub record AnswersInPart (bytes : List ℕ) (contents contents_new : Option (List ℕ)) (waiting : List ℕ) : Type 0 where
  pub rest : List ℕ
  pub left : List ℕ
  pub past : AnswersPast bytes rest contents contents_new waiting left

-- The output from a range line on was added.
pub record AnswersRange (range version bytes rest : List ℕ) (contents contents_new : Option (List ℕ))
    (waiting left : List ℕ) : Type 0 where
  pub added : List ℕ
  pub answers : AnswersFrom range version bytes rest added
  pub moves : Moves contents contents_new waiting added left

-- The output from a range line on, up to some rest, was added, and the first part of what waits was written.
pub record AnswersRangeInPart (range version bytes : List ℕ) (contents contents_new : Option (List ℕ))
    (waiting : List ℕ) : Type 0 where
  pub rest : List ℕ
  pub left : List ℕ
  pub past : AnswersRange range version bytes rest contents contents_new waiting left

-- The output for one pair, after which nothing follows, was added.
pub record AnswersOne (range version : List ℕ) (contents contents_new : Option (List ℕ))
    (waiting left : List ℕ) : Type 0 where
  pub line : List ℕ
  pub answer : IsAnswerLine (strip_carriage_return range) version line
  pub moves : Moves contents contents_new waiting line left

-- The output for one pair was added, and the first part of what waits was written.
pub record AnswersOneInPart (range version : List ℕ) (contents contents_new : Option (List ℕ))
    (waiting : List ℕ) : Type 0 where
  pub left : List ℕ
  pub one : AnswersOne range version contents contents_new waiting left

-- The output for all pairs at the end of the input was added.
pub record AnswersAll (bytes : List ℕ) (contents contents_new : Option (List ℕ)) (waiting left : List ℕ) : Type 0 where
  pub added : List ℕ
  pub answers : AreAnswers (pairs_read true bytes) added
  pub moves : Moves contents contents_new waiting added left

-- The output for all pairs was added, and the first part of what waits was written.
pub record AnswersAllInPart (bytes : List ℕ) (contents contents_new : Option (List ℕ)) (waiting : List ℕ) : Type 0 where
  pub left : List ℕ
  pub all : AnswersAll bytes contents contents_new waiting left

-- The error `Write` says that the writer's gauge has failed, and `Memory` that it has not. There is no other.
abbrev pub ErrorTells : RunError → (Failed : Type 0) → Type 0
ErrorTells Read Failed = ⊥
ErrorTells Write Failed = Failed
ErrorTells Memory Failed = ¬ Failed
ErrorTells Endless Failed = ⊥

-- A result tells whether the writer's gauge has failed. A value says that it has not.
abbrev pub TellsFailure : {T : Type 0} → Result T RunError → (Failed : Type 0) → Type 0
TellsFailure (Ok x) Failed = ¬ Failed
TellsFailure (Err e) Failed = ErrorTells e Failed

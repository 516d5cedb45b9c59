-- What the program writes for what it reads.
use Rattle.std.specs.Prelude.{◌≡◌, ℕ, List, [], ◌∷◌, ◌++◌, Bool, true, false, IsTrue, Option, codes}
use Rattle.std.specs.Io.KnownBytes.{Appends, Consumes, IsAtEnd}
use Rattle.semver_texts.specs.Characters.{newline}
use Rattle.semver_pairs.specs.Answer.{IsAnswer}
use Rattle.semver_pairs.specs.GaugeValue.{GaugeValue, HasFailed, HasReportedEnd}
use Rattle.semver_pairs.specs.Pairs.{Pair, both, lone, pairs_read}

-- the output for a pair. For a last line without a version line it is `missing version`, whatever the line is
abbrev pub IsPairAnswer : Pair → List ℕ → Type 0
IsPairAnswer (both range version) answer = IsAnswer range version answer
IsPairAnswer (lone line) answer = answer ≡ codes "missing version"

-- the output for each of the pairs in order, each with a newline byte after it
abbrev pub AreAnswers : List Pair → (written : List ℕ) → Type 0
AreAnswers [] written = written ≡ []
AreAnswers (pair ∷ pairs) written = (answer : List ℕ) × (others : List ℕ) × IsPairAnswer pair answer
    × AreAnswers pairs others × (written ≡ answer ++ (newline ∷ others))

-- the output for the whole input
abbrev pub IsOutput : (read written : List ℕ) → Type 0
IsOutput read written = AreAnswers (pairs_read true read) written

-- the beginning of the output for the pairs
abbrev pub BeginsAnswers : List Pair → (written : List ℕ) → Type 0
BeginsAnswers pairs written = (more : List ℕ) × AreAnswers pairs (written ++ more)

-- the output for the pairs that were completely read before the end of the input
abbrev pub IsOutputBeforeEnd : (read written : List ℕ) → Type 0
IsOutputBeforeEnd read written = AreAnswers (pairs_read false read) written

-- the last read reported the end: nothing is left to read, and no read has failed
abbrev pub HasEnded : {R : Type 0} → (R → Option (List ℕ)) → GaugeValue R → Type 0
HasEnded remaining gauge = HasReportedEnd gauge × IsAtEnd (remaining gauge.inner) × (¬ HasFailed gauge)

-- the beginning of the output for the pairs that were completely read
abbrev pub IsOutputPrefix : (Ended : Type 0) → (read written : List ℕ) → Type 0
IsOutputPrefix Ended read written =
    (is_end : Bool) × (IsTrue is_end → Ended) × BeginsAnswers (pairs_read is_end read) written

-- some bytes were read and some were written, and the relation holds between the two
pub record Exchanges (GoTogether : List ℕ → List ℕ → Type 0)
    (remaining remaining_new contents contents_new : Option (List ℕ)) : Type 0 where
  pub read : List ℕ
  pub written : List ℕ
  pub taken : Consumes remaining remaining_new read
  pub put : Appends contents contents_new written
  pub together : GoTogether read written

-- ---- laws

-- the pairs have an output
abbrev pub HasAnswers : List Pair → Type 0
HasAnswers pairs = (written : List ℕ) × AreAnswers pairs written

-- the pairs have at most one output
abbrev pub HasOneAnswer : List Pair → Type 0
HasOneAnswer pairs = (one other : List ℕ) → AreAnswers pairs one → AreAnswers pairs other → one ≡ other

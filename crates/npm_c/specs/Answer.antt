-- What C gets: a status, and the text of the answer with its length.
use Rattle.std.specs.Prelude.{◌≡◌, ◌++◌, ◌<◌, ◌≤◌, ℕ, List, drop, if◌then◌else◌, length, string_bytes}
use Rattle.npm_calls.specs.declared.answer.Answer as Answers
use Rattle.npm_c.specs.declared.status.TheConstants.{OK, OUT_OF_MEMORY, REFUSED}

-- the count is the length of the text. If the text fits, it is at the start of the array and the other bytes stay; if not,
-- all bytes stay
pub record IsPut (text old new : List ℕ) (count : ℕ) : Type 0 where
  pub counted : count ≡ length text
  pub fits : length text ≤ length old → new ≡ text ++ drop (length text) old
  pub kept : length old < length text → new ≡ old

-- the text of this answer is written, and the status says whether the call is refused
pub record IsTold (answer : Answers.Answer) (status : ℕ) (old new : List ℕ) (told : ℕ) : Type 0 where
  pub status_is : status ≡ (if answer.is_refused then REFUSED else OK)
  pub text : IsPut (string_bytes answer.text) old new told

-- what C gets: an answer, or that an allocation failed, and then nothing is written
pub data IsAnswered (status : ℕ) (old new : List ℕ) (before told : ℕ) : Type 0 where
  no_memory : status ≡ OUT_OF_MEMORY → new ≡ old → told ≡ before → IsAnswered status old new before told
  answered : (answer : Answers.Answer) → IsTold answer status old new told → IsAnswered status old new before told

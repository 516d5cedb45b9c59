-- Answering some pairs after others.
use Rattle.std.proofs.Common.{◌≡◌, ◌≢◌, ℕ, List, [], ◌∷◌, ◌++◌, Bool, true, false, inl, inr, ap, refl, subst, sym, ◌∙◌}
use Rattle.std.proofs.Common.{append_assoc, append-nil}
use Rattle.std.specs.Prelude.{map}
use Rattle.std.specs.Str.Lines.{strip_carriage_return}
use Rattle.semver_texts.specs.Characters.{newline}
use Rattle.semver_pairs.specs.Lines.{Lines, rest_line}
use Rattle.semver_pairs.specs.Output.{AreAnswers}
use Rattle.semver_pairs.specs.Pairs.{Pair, both, lone, lines_read, pairs_of, pairs_read}
use Rattle.semver_pairs.specs.Private.Answering.{AnswersFrom, AnswersUpTo, IsAnswerLine}
use Rattle.semver_pairs.specs.Private.Splitting.{BeginsWithLine, BeginsWithPair, HasNoNewline}
use Rattle.semver_pairs.proofs.AnswerLemmas.{answer-exists, answers-exist}
use Rattle.semver_pairs.proofs.LineLemmas.{divided-line, divided-no_newline, newline_or_not}

-- ---- the lines and the pairs of some bytes

-- all lines of divided bytes
abbrev all_lines : Lines → List (List ℕ)
all_lines lines = map strip_carriage_return lines.ended ++ rest_line lines.rest

-- a line that is ended comes first
pub lines-line : (is_end : Bool) (line rest : List ℕ) → HasNoNewline line
    → lines_read is_end (line ++ (newline ∷ rest)) ≡ strip_carriage_return line ∷ lines_read is_end rest
lines-line false line rest none = ap (λ (l : Lines). map strip_carriage_return l.ended) (divided-line line rest none)
lines-line true line rest none = ap all_lines (divided-line line rest none)

pairs_of-two : (is_end : Bool) (range version : List ℕ) (lines : List (List ℕ))
    → pairs_of is_end (range ∷ version ∷ lines) ≡ both range version ∷ pairs_of is_end lines
pairs_of-two false range version lines = refl
pairs_of-two true range version lines = refl

-- two lines that are ended are a pair, and it comes first
pairs-two : (is_end : Bool) (range line rest : List ℕ) → HasNoNewline range → HasNoNewline line
    → pairs_read is_end (range ++ (newline ∷ (line ++ (newline ∷ rest))))
    ≡ both (strip_carriage_return range) (strip_carriage_return line) ∷ pairs_read is_end rest
pairs-two is_end range line rest one other =
    ap (pairs_of is_end) (lines-line is_end range (line ++ (newline ∷ rest)) one
    ∙ ap (λ (l : List (List ℕ)). strip_carriage_return range ∷ l) (lines-line is_end line rest other))
    ∙ pairs_of-two is_end (strip_carriage_return range) (strip_carriage_return line) (lines_read is_end rest)

-- so it does whatever follows
pub pairs-pair : (is_end : Bool) {bytes range version rest : List ℕ} (later : List ℕ)
    → BeginsWithPair bytes range version rest
    → pairs_read is_end (bytes ++ later) ≡ both (strip_carriage_return range) version ∷ pairs_read is_end (rest ++
    later)
pairs-pair is_end {bytes = bytes} {range = range} {rest = rest} later begins =
    let second : begins.others ++ later ≡ begins.line ++ (newline ∷ (rest ++ later)) =
    ap (λ (l : List ℕ). l ++ later) begins.second.split ∙ append_assoc begins.line (newline ∷ rest) later in
    let first : bytes ++ later ≡ range ++ (newline ∷ (begins.line ++ (newline ∷ (rest ++ later)))) =
    ap (λ (l : List ℕ). l ++ later) begins.first.split ∙ append_assoc range (newline ∷ begins.others) later
    ∙ ap (λ (l : List ℕ). range ++ (newline ∷ l)) second in
    ap (pairs_read is_end) first
    ∙ pairs-two is_end range begins.line (rest ++ later) begins.first.one_line begins.second.one_line
    ∙ ap (λ (l : List ℕ). both (strip_carriage_return range) l ∷ pairs_read is_end (rest ++ later))
    (sym begins.stripped)

-- no line is ended
pub pairs-no_newline : (bytes : List ℕ) → HasNoNewline bytes → pairs_read false bytes ≡ []
pairs-no_newline bytes none =
    ap (λ (l : Lines). pairs_of false (map strip_carriage_return l.ended)) (divided-no_newline bytes none)

-- one line is
pub pairs-one_line : (range rest : List ℕ) → HasNoNewline range → HasNoNewline rest
    → pairs_read false (range ++ (newline ∷ rest)) ≡ []
pairs-one_line range rest one none =
    ap (pairs_of false) (lines-line false range rest one)
    ∙ ap (λ (l : Lines). pairs_of false (strip_carriage_return range ∷ map strip_carriage_return l.ended))
    (divided-no_newline rest none)

-- the same of bytes that were split
pub pairs-split : {bytes range rest : List ℕ} → BeginsWithLine bytes range rest → HasNoNewline rest
    → pairs_read false bytes ≡ []
pairs-split {range = range} {rest = rest} begins none =
    ap (pairs_read false) begins.split ∙ pairs-one_line range rest begins.one_line none

-- and the other way round: without a whole pair there is no second newline
pub one_line-from : {bytes range rest : List ℕ} → BeginsWithLine bytes range rest → pairs_read false bytes ≡ []
    → HasNoNewline rest
one_line-from {range = range} {rest = rest} begins none = elim (newline_or_not rest) [
  | inl fine ↦ fine
  | inr found ↦
      let whole = ap (pairs_read false) begins.split
      ∙ ap (λ (l : List ℕ). pairs_read false (range ++ (newline ∷ l))) found.2.split
      ∙ pairs-two false range found.0 found.1 begins.one_line found.2.one_line in
      let wrong : [] ≡ both (strip_carriage_return range) (strip_carriage_return found.0) ∷ pairs_read false found.1 =
      sym none ∙ whole in
      cc (wrong)
]

-- ---- the output up to some rest

pub answers-none : {bytes : List ℕ} → AnswersUpTo bytes bytes []
answers-none = record { go_on = λ is_end later more answers. answers }

pub answers-trans : {bytes mid rest one other : List ℕ} → AnswersUpTo bytes mid one → AnswersUpTo mid rest other
    → AnswersUpTo bytes rest (one ++ other)
answers-trans {bytes = bytes} {one = one} {other = other} first second = record {
  go_on = λ is_end later more answers.
      subst (AreAnswers (pairs_read is_end (bytes ++ later))) (sym (append_assoc one other more))
      (first.go_on is_end later (other ++ more) (second.go_on is_end later more answers));
}

-- more bytes behind all of them, and so behind the rest
pub answers-longer : {bytes rest added : List ℕ} (more : List ℕ) → AnswersUpTo bytes rest added
    → AnswersUpTo (bytes ++ more) (rest ++ more) added
answers-longer {bytes = bytes} {rest = rest} {added = added} more up_to = record {
  go_on = λ is_end later others answers.
      subst (λ (l : List ℕ). AreAnswers (pairs_read is_end l) (added ++ others)) (sym (append_assoc bytes more later))
      (up_to.go_on is_end (more ++ later) others
      (subst (λ (l : List ℕ). AreAnswers (pairs_read is_end l) others) (append_assoc rest more later) answers));
}

-- a pair, and what follows it
pub answers-pair : {bytes range version mid rest added : List ℕ} → BeginsWithPair bytes range version mid
    → AnswersFrom range version mid rest added → AnswersUpTo bytes rest added
answers-pair {range = range} {version = version} {mid = mid} {added = added} begins from = record {
  go_on = λ is_end later more answers.
      let is : added ++ more ≡ from.answer.0 ++ (newline ∷ (from.others ++ more)) =
      ap (λ (l : List ℕ). l ++ more) from.both ∙ append_assoc from.first from.others more
      ∙ ap (λ (l : List ℕ). l ++ (from.others ++ more)) from.answer.2
      ∙ append_assoc from.answer.0 (newline ∷ []) (from.others ++ more) in
      let whole : AreAnswers (both (strip_carriage_return range) version ∷ pairs_read is_end (mid ++ later))
      (added ++ more) =
      (from.answer.0, from.others ++ more, from.answer.1, from.later.go_on is_end later more answers, is) in
      subst (λ (pairs : List Pair). AreAnswers pairs (added ++ more)) (sym (pairs-pair is_end later begins)) whole;
}

-- ---- the output from a range line on

-- the first alone
pub from-one : {range version bytes line : List ℕ} → IsAnswerLine (strip_carriage_return range) version line
    → AnswersFrom range version bytes bytes line
from-one {line = line} answer = record {
  first = line;
  others = [];
  answer = answer;
  later = answers-none;
  both = sym (append-nil line);
}

-- and those to a pair with the same range line
from-more : {range version bytes : List ℕ} (line : List ℕ) {next mid rest added : List ℕ}
    → IsAnswerLine (strip_carriage_return range) version line → BeginsWithPair bytes range next mid
    → AnswersFrom range next mid rest added → AnswersFrom range version bytes rest (line ++ added)
from-more line {added = added} answer begins from = record {
  first = line;
  others = added;
  answer = answer;
  later = answers-pair begins from;
  both = refl;
}

-- where no byte follows, the output is one line
pub from-nothing : {range version rest added : List ℕ} → AnswersFrom range version [] rest added
    → IsAnswerLine (strip_carriage_return range) version added
from-nothing {range = range} {version = version} {rest = rest} {added = added} from =
    let some = answers-exist (pairs_read true (rest ++ [])) in
    let all : from.others ++ some.0 ≡ [] = from.later.go_on true [] some.0 some.1 in
    let none : from.others ≡ [] = nothing_before from.others some.0 all in
    let first : added ≡ from.first = from.both ∙ ap (λ (l : List ℕ). from.first ++ l) none ∙ append-nil from.first in
    subst (IsAnswerLine (strip_carriage_return range) version) (sym first) from.answer
  where
    nothing_before : (one other : List ℕ) → one ++ other ≡ [] → one ≡ []
    nothing_before [] other is = refl
    nothing_before (b ∷ one) other is = cc (is)

-- The output so far, and then the output from here on, is the output from the beginning on.
pub record GoesOn (range version_first bytes_first version bytes done : List ℕ) : Type 0 where
  pub go_on : (rest added : List ℕ) → AnswersFrom range version bytes rest added
      → AnswersFrom range version_first bytes_first rest (done ++ added)

pub goes-none : {range version bytes : List ℕ} → GoesOn range version bytes version bytes []
goes-none = record { go_on = λ rest added from. from }

pub goes-more : {range version_first bytes_first version bytes done : List ℕ} (line : List ℕ) {next mid : List ℕ}
    → GoesOn range version_first bytes_first version bytes done
    → IsAnswerLine (strip_carriage_return range) version line → BeginsWithPair bytes range next mid
    → GoesOn range version_first bytes_first next mid (done ++ line)
goes-more {range = range} {version_first = version_first} {bytes_first = bytes_first} {done = done} line goes answer
    begins = record {
      go_on = λ rest added from.
          subst (AnswersFrom range version_first bytes_first rest) (sym (append_assoc done line added))
          (goes.go_on rest (line ++ added) (from-more line answer begins from));
    }

pub goes-end : {range version_first bytes_first version bytes done : List ℕ} (line : List ℕ)
    → GoesOn range version_first bytes_first version bytes done
    → IsAnswerLine (strip_carriage_return range) version line
    → AnswersFrom range version_first bytes_first bytes (done ++ line)
goes-end {bytes = bytes} line goes answer = goes.go_on bytes line (from-one answer)

-- a range line and a version line have an output line
pub answer_line-exists : (range version : List ℕ) → (line : List ℕ) × IsAnswerLine range version line
answer_line-exists range version =
    let some = answer-exists range version in (some.0 ++ (newline ∷ []), (some.0, some.1, refl))

-- ---- at the end

-- a range line and a version line
pub last-both : (range version : List ℕ) → HasNoNewline range → HasNoNewline version → version ≢ []
    → pairs_read true (range ++ (newline ∷ version)) ≡ both (strip_carriage_return range) version ∷ []
last-both range [] one none some = absurd (some refl)
last-both range (b ∷ version) one none some =
    ap (pairs_of true) (lines-line true range (b ∷ version) one
    ∙ ap (λ (l : Lines). strip_carriage_return range ∷ all_lines l) (divided-no_newline (b ∷ version) none))

-- a range line alone, which is ended
pub last-ended : (range : List ℕ) → HasNoNewline range
    → pairs_read true (range ++ (newline ∷ [])) ≡ lone (strip_carriage_return range) ∷ []
last-ended range one = ap (pairs_of true) (lines-line true range [] one)

-- or is not
pub last-unended : (range : List ℕ) → HasNoNewline range → range ≢ [] → pairs_read true range ≡ lone range ∷ []
last-unended [] one some = absurd (some refl)
last-unended (b ∷ range) one some =
    ap (λ (l : Lines). pairs_of true (all_lines l)) (divided-no_newline (b ∷ range) one)

-- the output up to the rest, and then the output for the rest, is the output for all bytes
pub answers-all : (is_end : Bool) {bytes rest added : List ℕ} (more : List ℕ) → AnswersUpTo bytes rest added
    → AreAnswers (pairs_read is_end rest) more → AreAnswers (pairs_read is_end bytes) (added ++ more)
answers-all is_end {bytes = bytes} {rest = rest} {added = added} more up_to answers =
    subst (λ (l : List ℕ). AreAnswers (pairs_read is_end l) (added ++ more)) (append-nil bytes)
    (up_to.go_on is_end [] more (subst (λ (l : List ℕ). AreAnswers (pairs_read is_end l) more) (sym (append-nil rest))
    answers))

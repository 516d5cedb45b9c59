-- Output is added, waits and is written, step by step.
use Rattle.std.proofs.Common.{◌≡◌, ◌≢◌, ℕ, List, [], ◌∷◌, ◌++◌, take, drop, true, Option, refl, subst, sym}
use Rattle.std.proofs.Common.{append-nil}
use Rattle.std.specs.Io.KnownBytes.{Appends}
use Rattle.std.specs.Str.Lines.{strip_carriage_return}
use Rattle.semver_texts.specs.Characters.{newline}
use Rattle.semver_pairs.specs.declared.open_pair.OpenPair.{OpenPair}
use Rattle.semver_pairs.specs.GaugeValue.{GaugeValue}
use Rattle.semver_pairs.specs.Output.{AreAnswers}
use Rattle.semver_pairs.specs.Pairs.{Pair, both, pairs_read}
use Rattle.semver_pairs.specs.Private.Answering.{AnswersAll, AnswersOne, AnswersOneInPart, AnswersPast, AnswersRange}
use Rattle.semver_pairs.specs.Private.Answering.{AnswersRangeInPart, AnswersInPart, AnswersUpTo, IsAnswerLine, Moves}
use Rattle.semver_pairs.specs.Private.OpenPair.{IsOpen, open_bytes}
use Rattle.semver_pairs.specs.Private.Splitting.{BeginsWithPair}
use Rattle.semver_pairs.proofs.OutputLemmas.{moves-all, moves-hold, moves-none, moves-part, moves-trans}
use Rattle.semver_pairs.proofs.PairLemmas.{GoesOn, answer_line-exists, answers-none, answers-pair, answers-trans}
use Rattle.semver_pairs.proofs.PairLemmas.{from-nothing, from-one, goes-end, goes-more, goes-none}
use Rattle.semver_pairs.proofs.PairLemmas.{last-both}

-- ---- pairs with one range line

-- The output so far, and then the output from here on, is the output from the first pair on.
pub record VersionsSoFar (range version_first bytes_first version bytes : List ℕ)
    (contents contents_new : Option (List ℕ)) (waiting left : List ℕ) : Type 0 where
  pub done : List ℕ
  pub goes : GoesOn range version_first bytes_first version bytes done
  pub moves : Moves contents contents_new waiting done left

pub so_far_none : {range version bytes : List ℕ} {contents : Option (List ℕ)} {waiting : List ℕ}
    → VersionsSoFar range version bytes version bytes contents contents waiting waiting
so_far_none = record { done = []; goes = goes-none; moves = moves-none }

pub so_far_more : {range version_first bytes_first version bytes line next mid : List ℕ} {old now new : Option (List ℕ)}
    {waiting held left : List ℕ} → VersionsSoFar range version_first bytes_first version bytes old now waiting held
    → IsAnswerLine (strip_carriage_return range) version line → Moves now new held line left
    → BeginsWithPair bytes range next mid → VersionsSoFar range version_first bytes_first next mid old new waiting left
so_far_more {line = line} so_far answer moves begins = record {
  done = so_far.done ++ line;
  goes = goes-more line so_far.goes answer begins;
  moves = moves-trans so_far.moves moves;
}

pub so_far_end : {range version_first bytes_first version bytes line : List ℕ} {old now new : Option (List ℕ)}
    {waiting held left : List ℕ} → VersionsSoFar range version_first bytes_first version bytes old now waiting held
    → IsAnswerLine (strip_carriage_return range) version line → Moves now new held line left
    → AnswersRange range version_first bytes_first bytes old new waiting left
so_far_end {line = line} so_far answer moves = record {
  added = so_far.done ++ line;
  answers = goes-end line so_far.goes answer;
  moves = moves-trans so_far.moves moves;
}

-- the writer failed
pub so_far_part : {range version_first bytes_first version bytes line : List ℕ} {old now new : Option (List ℕ)}
    {waiting held : List ℕ} → VersionsSoFar range version_first bytes_first version bytes old now waiting held
    → IsAnswerLine (strip_carriage_return range) version line → (left : List ℕ) × Moves now new held line left
    → AnswersRangeInPart range version_first bytes_first old new waiting
so_far_part {bytes = bytes} so_far answer part = record {
  rest = bytes;
  left = part.0;
  past = so_far_end so_far answer part.1;
}

-- memory was refused
pub so_far_stop : {range version_first bytes_first version bytes : List ℕ} {old now : Option (List ℕ)}
    {waiting held : List ℕ} → VersionsSoFar range version_first bytes_first version bytes old now waiting held
    → AnswersRangeInPart range version_first bytes_first old now waiting
so_far_stop {range = range} {version = version} {bytes = bytes} {held = held} so_far =
    let some = answer_line-exists (strip_carriage_return range) version in record {
      rest = bytes;
      left = held ++ some.0;
      past = so_far_end so_far some.1 moves-hold;
    }

-- memory was refused for the range itself
pub range_stop : {range version bytes : List ℕ} {contents : Option (List ℕ)} {waiting : List ℕ}
    → AnswersRangeInPart range version bytes contents contents waiting
range_stop = so_far_stop so_far_none

-- ---- pairs one after the other

pub past_none : {bytes : List ℕ} {contents : Option (List ℕ)} {waiting : List ℕ}
    → AnswersPast bytes bytes contents contents waiting waiting
past_none = record { added = []; answers = answers-none; moves = moves-none }

pub past_trans : {bytes mid rest : List ℕ} {old now new : Option (List ℕ)} {waiting held left : List ℕ}
    → AnswersPast bytes mid old now waiting held → AnswersPast mid rest now new held left
    → AnswersPast bytes rest old new waiting left
past_trans first second = record {
  added = first.added ++ second.added;
  answers = answers-trans first.answers second.answers;
  moves = moves-trans first.moves second.moves;
}

pub past_pair : {bytes range version mid rest : List ℕ} {old new : Option (List ℕ)} {waiting left : List ℕ}
    → BeginsWithPair bytes range version mid → AnswersRange range version mid rest old new waiting left
    → AnswersPast bytes rest old new waiting left
past_pair begins answers = record {
  added = answers.added;
  answers = answers-pair begins answers.answers;
  moves = answers.moves;
}

pub past_more : {bytes here range version mid rest : List ℕ} {old now new : Option (List ℕ)}
    {waiting held left : List ℕ} → AnswersPast bytes here old now waiting held → BeginsWithPair here range version mid
    → AnswersRange range version mid rest now new held left → AnswersPast bytes rest old new waiting left
past_more past begins answers = past_trans past (past_pair begins answers)

pub past_part : {bytes here range version mid : List ℕ} {old now new : Option (List ℕ)} {waiting held : List ℕ}
    → AnswersPast bytes here old now waiting held → BeginsWithPair here range version mid
    → AnswersRangeInPart range version mid now new held → AnswersInPart bytes old new waiting
past_part past begins some = record { rest = some.rest; left = some.left; past = past_more past begins some.past }

-- ---- the open pair

-- where nothing follows a pair, only its own output was added
pub one-from : {range version rest : List ℕ} {old new : Option (List ℕ)} {waiting left : List ℕ}
    → AnswersRange range version [] rest old new waiting left → AnswersOne range version old new waiting left
one-from answers = record { line = answers.added; answer = from-nothing answers.answers; moves = answers.moves }

pub one-part : {range version : List ℕ} {old new : Option (List ℕ)} {waiting : List ℕ}
    → AnswersRangeInPart range version [] old new waiting → AnswersOneInPart range version old new waiting
one-part some = record { left = some.left; one = one-from some.past }

pub open_whole : {bytes range version rest : List ℕ} {old new : Option (List ℕ)} {waiting left : List ℕ}
    → BeginsWithPair bytes range version rest → AnswersOne range version old new waiting left
    → AnswersPast bytes rest old new waiting left
open_whole begins one = record {
  added = one.line;
  answers = answers-pair begins (from-one one.answer);
  moves = one.moves;
}

pub open_part : {bytes range version rest : List ℕ} {old new : Option (List ℕ)} {waiting : List ℕ}
    → BeginsWithPair bytes range version rest → AnswersOneInPart range version old new waiting
    → AnswersInPart bytes old new waiting
open_part {rest = rest} begins some = record { rest = rest; left = some.left; past = open_whole begins some.one }

-- memory was refused
pub past_stop : {bytes : List ℕ} {contents : Option (List ℕ)} {waiting : List ℕ}
    → AnswersInPart bytes contents contents waiting
past_stop {bytes = bytes} {waiting = waiting} = record { rest = bytes; left = waiting; past = past_none }

-- nothing of a pair was read before
pub open_none-past : (pair : OpenPair) {bytes : List ℕ} {contents : Option (List ℕ)} {waiting : List ℕ}
    → open_bytes pair ≡ [] → AnswersPast (open_bytes pair ++ bytes) bytes contents contents waiting waiting
open_none-past pair {bytes = bytes} {contents = contents} {waiting = waiting} none =
    subst (λ (l : List ℕ). AnswersPast (l ++ bytes) bytes contents contents waiting waiting) (sym none) past_none

-- ---- one read

-- what waits was written
past_written : {bytes rest : List ℕ} {old now new : Option (List ℕ)} {waiting : List ℕ}
    → AnswersPast bytes rest old now [] waiting → Appends now new waiting → AnswersPast bytes rest old new [] []
past_written {bytes = bytes} {rest = rest} past put = record {
  added = past.added ++ [];
  answers = subst (AnswersUpTo bytes rest) (sym (append-nil past.added)) past.answers;
  moves = moves-trans past.moves (moves-all put);
}

pub piece_all : {bytes mid rest : List ℕ} {old first second new : Option (List ℕ)} {held waiting : List ℕ}
    → AnswersPast bytes mid old first [] held → AnswersPast mid rest first second held waiting
    → Appends second new waiting → AnswersPast bytes rest old new [] []
piece_all before pairs put = past_written (past_trans before pairs) put

-- memory was refused once all was written
pub piece_stop : {bytes mid rest : List ℕ} {old first second new : Option (List ℕ)} {held waiting : List ℕ}
    → AnswersPast bytes mid old first [] held → AnswersPast mid rest first second held waiting
    → Appends second new waiting → AnswersInPart bytes old new []
piece_stop {rest = rest} before pairs put = record { rest = rest; left = []; past = piece_all before pairs put }

-- the pairs stopped
pub piece_pairs : {bytes mid : List ℕ} {old first new : Option (List ℕ)} {held : List ℕ}
    → AnswersPast bytes mid old first [] held → AnswersInPart mid first new held → AnswersInPart bytes old new []
piece_pairs before some = record { rest = some.rest; left = some.left; past = past_trans before some.past }

-- the last write stopped
pub piece_part : {bytes mid rest : List ℕ} {old first second new : Option (List ℕ)} {held waiting : List ℕ}
    → AnswersPast bytes mid old first [] held → AnswersPast mid rest first second held waiting
    → (count : ℕ) × Appends second new (take count waiting) → AnswersInPart bytes old new []
piece_part {rest = rest} {waiting = waiting} before pairs part = record {
  rest = rest;
  left = drop part.0 waiting ++ [];
  past = past_trans (past_trans before pairs)
      (record { added = []; answers = answers-none; moves = moves-part part.0 part.1 });
}

-- the piece stays open
pub piece_open : {T : Type 0} (contents : T → Option (List ℕ)) {bytes rest : List ℕ} (old new : GaugeValue T)
    → rest ≡ bytes → new ≡ old → AnswersPast bytes rest (contents old.inner) (contents new.inner) [] []
piece_open contents old new is same = rw (is, same) past_none

-- an equal rest may replace the rest
pub past_same : {bytes rest other : List ℕ} {old new : Option (List ℕ)} {waiting left : List ℕ} → other ≡ rest
    → AnswersPast bytes rest old new waiting left → AnswersPast bytes other old new waiting left
past_same is past = rw is past

-- ---- the end

-- the output for the only pair is the output for all bytes
last_one : (pair : Pair) (bytes answer : List ℕ) → pairs_read true bytes ≡ pair ∷ []
    → AreAnswers (pair ∷ []) answer → AreAnswers (pairs_read true bytes) answer
last_one pair bytes answer is answers = subst (λ (pairs : List Pair). AreAnswers pairs answer) (sym is) answers

-- a range line and a version line
pub last_pair : {pair : OpenPair} {old new : Option (List ℕ)} {waiting left : List ℕ} → IsOpen pair
    → pair.is_range_ended ≡ true → pair.version.items ≢ []
    → AnswersOne pair.range.items pair.version.items old new waiting left
    → AnswersAll (open_bytes pair) old new waiting left
last_pair {pair = pair} lines ended some one =
    let answers : AreAnswers (both (strip_carriage_return pair.range.items) pair.version.items ∷ []) one.line =
    (one.answer.0, [], one.answer.1, refl, one.answer.2) in
    rw ended (record {
      added = one.line;
      answers = last_one (both (strip_carriage_return pair.range.items) pair.version.items)
          (pair.range.items ++ (newline ∷ pair.version.items)) one.line
          (last-both pair.range.items pair.version.items lines.range lines.version some) answers;
      moves = one.moves;
    })

-- One read after the other, up to the end.
use Rattle.std.proofs.Common.{◌≡◌, ◌≢◌, ℕ, ◌+◌, ◌≤◌, List, [], ◌∷◌, ◌++◌, length, take, drop, Bool, true, false}
use Rattle.std.proofs.Common.{if◌then◌else◌, Option, None, Some, IfSome, codes}
use Rattle.std.proofs.Common.{refl, subst, sym, ◌∙◌, append-nil, arith, length-append}
use Rattle.std.specs.Io.KnownBytes.{Appends, Consumes, Keeps}
use Rattle.std.proofs.KnownBytes.{Consumes-kept, Consumes-nil, Consumes-trans}
use Rattle.std.specs.Str.Lines.{strip_carriage_return}
use Rattle.semver_texts.specs.Characters.{newline}
use Rattle.semver_pairs.specs.declared.open_pair.OpenPair.{OpenPair}
use Rattle.semver_pairs.specs.Output.{AreAnswers, Exchanges, IsOutput, IsOutputBeforeEnd, IsOutputPrefix}
use Rattle.semver_pairs.specs.Pairs.{Pair, lone, pairs_read}
use Rattle.semver_pairs.specs.Private.Answering.{AnswersAll, AnswersAllInPart, AnswersOneInPart, AnswersPast, AnswersInPart}
use Rattle.semver_pairs.specs.Private.Answering.{Moves}
use Rattle.semver_pairs.specs.Private.OpenPair.{IsOpen, open_bytes}
use Rattle.semver_pairs.specs.Private.Splitting.{HasNoNewline}
use Rattle.semver_pairs.proofs.MoveLemmas.{last_pair, past_trans}
use Rattle.semver_pairs.proofs.OpenPairLemmas.{open_none}
use Rattle.semver_pairs.proofs.OutputLemmas.{before_end, begins-some, moves-all, moves-none, moves-part, moves-trans}
use Rattle.semver_pairs.proofs.PairLemmas.{answers-all, answers-longer, last-ended, last-unended}

-- ---- the last pair

pub last_none : (pair : OpenPair) {contents : Option (List ℕ)} → open_bytes pair ≡ []
    → AnswersAll (open_bytes pair) contents contents [] []
last_none pair none = record {
  added = [];
  answers = subst (λ (l : List ℕ). AreAnswers (pairs_read true l) []) (sym none) refl;
  moves = moves-none;
}

-- it has no version line
lone-answer : {pair : OpenPair} → IsOpen pair → open_bytes pair ≢ []
    → ¬ ((pair.is_range_ended ≡ true) × (pair.version.items ≢ []))
    → AreAnswers (pairs_read true (open_bytes pair)) (codes "missing version\n")
lone-answer {pair = pair} lines some alone =
    by_end pair.range.items pair.version.items pair.is_range_ended lines.range some alone
  where
    answered : (bytes line : List ℕ) → pairs_read true bytes ≡ lone line ∷ []
        → AreAnswers (pairs_read true bytes) (codes "missing version\n")
    answered bytes line is =
        let one : AreAnswers (lone line ∷ []) (codes "missing version\n") =
        (codes "missing version", [], refl, refl, refl) in
        subst (λ (pairs : List Pair). AreAnswers pairs (codes "missing version\n")) (sym is) one

    by_end : (range version : List ℕ) (is_ended : Bool) → HasNoNewline range
        → (if is_ended then range ++ (newline ∷ version) else range) ≢ []
        → ¬ ((is_ended ≡ true) × (version ≢ []))
        → AreAnswers (pairs_read true (if is_ended then range ++ (newline ∷ version) else range))
        (codes "missing version\n")
    by_end range [] true one some alone = answered (range ++ (newline ∷ [])) (strip_carriage_return range)
        (last-ended range one)
    by_end range (b ∷ version) true one some alone = absurd (alone (refl, λ is. cc (is)))
    by_end range version false one some alone = answered range range (last-unended range one some)

pub last_lone : {pair : OpenPair} {old new : Option (List ℕ)} {left : List ℕ} → IsOpen pair → open_bytes pair ≢ []
    → ¬ ((pair.is_range_ended ≡ true) × (pair.version.items ≢ [])) → Moves old new [] (codes "missing version\n") left
    → AnswersAll (open_bytes pair) old new [] left
last_lone lines some alone moves =
    record { added = codes "missing version\n"; answers = lone-answer lines some alone; moves = moves }

pub last_lone_part : {pair : OpenPair} {old new : Option (List ℕ)} → IsOpen pair → open_bytes pair ≢ []
    → ¬ ((pair.is_range_ended ≡ true) × (pair.version.items ≢ []))
    → (left : List ℕ) × Moves old new [] (codes "missing version\n") left → AnswersAllInPart (open_bytes pair) old new []
last_lone_part lines some alone part = record { left = part.0; all = last_lone lines some alone part.1 }

pub last_pair_part : {pair : OpenPair} {old new : Option (List ℕ)} {waiting : List ℕ} → IsOpen pair
    → (pair.is_range_ended ≡ true) × (pair.version.items ≢ [])
    → AnswersOneInPart pair.range.items pair.version.items old new waiting
    → AnswersAllInPart (open_bytes pair) old new waiting
last_pair_part lines whole some = record { left = some.left; all = last_pair lines whole.0 whole.1 some.one }

pub last_written : {bytes : List ℕ} {old now new : Option (List ℕ)} {waiting : List ℕ}
    → AnswersAll bytes old now [] waiting → Appends now new waiting → AnswersAll bytes old new [] []
last_written {bytes = bytes} all put = record {
  added = all.added ++ [];
  answers = subst (AreAnswers (pairs_read true bytes)) (sym (append-nil all.added)) all.answers;
  moves = moves-trans all.moves (moves-all put);
}

pub last_written_part : {bytes : List ℕ} {old now new : Option (List ℕ)} {waiting : List ℕ}
    → AnswersAll bytes old now [] waiting → (count : ℕ) × Appends now new (take count waiting)
    → AnswersAllInPart bytes old new []
last_written_part {bytes = bytes} {waiting = waiting} all part = record {
  left = drop part.0 waiting ++ [];
  all = record {
    added = all.added ++ [];
    answers = subst (AreAnswers (pairs_read true bytes)) (sym (append-nil all.added)) all.answers;
    moves = moves-trans all.moves (moves-part part.0 part.1);
  };
}

-- ---- one read after the other

-- So much was read, by so many reads, and the output for the pairs before the open one is written.
pub record RunSoFar (remaining remaining_new contents contents_new : Option (List ℕ)) (kept : OpenPair)
    (count : ℕ) : Type 0 where
  pub read : List ℕ
  pub taken : Consumes remaining remaining_new read
  pub past : AnswersPast read (open_bytes kept) contents contents_new [] []
  pub least : count ≤ length read

-- all that was added was written
written-is : (contents contents_new : Option (List ℕ)) (added : List ℕ)
    → (moves : Moves contents contents_new [] added []) → added ≡ moves.written
written-is contents contents_new added moves = moves.all ∙ append-nil moves.written

pub run_none : {remaining contents : Option (List ℕ)} {kept : OpenPair} → open_bytes kept ≡ []
    → RunSoFar remaining remaining contents contents kept 0
run_none {remaining = remaining} none = record {
  read = [];
  taken = Consumes-nil remaining;
  past = record {
    added = [];
    answers = record {
      go_on = λ is_end later more answers.
          subst (λ (l : List ℕ). AreAnswers (pairs_read is_end (l ++ later)) more) none answers;
    };
    moves = moves-none;
  };
  least = omega arith;
}

past_longer : {bytes rest : List ℕ} (more : List ℕ) {old new : Option (List ℕ)} {waiting left : List ℕ}
    → AnswersPast bytes rest old new waiting left → AnswersPast (bytes ++ more) (rest ++ more) old new waiting left
past_longer more past = record { added = past.added; answers = answers-longer more past.answers; moves = past.moves }

pub run_more : {r0 r1 r2 c0 c1 c2 : Option (List ℕ)} {kept kept_new : OpenPair} {count : ℕ} (piece : List ℕ)
    → RunSoFar r0 r1 c0 c1 kept count → Consumes r1 r2 piece → 1 ≤ length piece
    → AnswersPast (open_bytes kept ++ piece) (open_bytes kept_new) c1 c2 [] []
    → RunSoFar r0 r2 c0 c2 kept_new (count + 1)
run_more {r0 = r0} {r1 = r1} {r2 = r2} piece so_far taken some past = record {
  read = so_far.read ++ piece;
  taken = Consumes-trans r0 r1 r2 so_far.read piece so_far.taken taken;
  past = past_trans (past_longer piece so_far.past) past;
  least = rw length-append (let least = so_far.least in omega arith);
}

-- a piece was not answered to its end
pub run_part : (Ended : Type 0) {r0 r1 r2 c0 c1 c2 : Option (List ℕ)} {kept : OpenPair} {count : ℕ} (piece : List ℕ)
    → RunSoFar r0 r1 c0 c1 kept count → Consumes r1 r2 piece → AnswersInPart (open_bytes kept ++ piece) c1 c2 []
    → Exchanges (IsOutputPrefix Ended) r0 r2 c0 c2
run_part Ended {r0 = r0} {r1 = r1} {r2 = r2} piece so_far taken some =
    let past = past_trans (past_longer piece so_far.past) some.past in record {
      read = so_far.read ++ piece;
      written = past.moves.written;
      taken = Consumes-trans r0 r1 r2 so_far.read piece so_far.taken taken;
      put = past.moves.put;
      together = (
        false,
        λ is_end. cc is_end,
        begins-some past.moves.written some.left past.answers past.moves.all,
      );
    }

-- the reader failed, or did not end
pub run_stop : (Ended : Type 0) {r0 r1 r2 c0 c1 : Option (List ℕ)} {kept : OpenPair} {count : ℕ}
    → RunSoFar r0 r1 c0 c1 kept count → Keeps r1 r2 → Exchanges (IsOutputPrefix Ended) r0 r2 c0 c1
run_stop Ended {r0 = r0} {r1 = r1} {r2 = r2} so_far keeps = record {
  read = so_far.read;
  written = so_far.past.moves.written;
  taken = Consumes-kept r0 r1 r2 so_far.read so_far.taken keeps;
  put = so_far.past.moves.put;
  together = (
    false,
    λ is_end. cc is_end,
    begins-some so_far.past.moves.written [] so_far.past.answers so_far.past.moves.all,
  );
}

-- then all output is written
pub run_stop_all : {r0 r1 r2 c0 c1 : Option (List ℕ)} {kept : OpenPair} {count : ℕ} → RunSoFar r0 r1 c0 c1 kept count
    → IsOpen kept → Keeps r1 r2 → Exchanges IsOutputBeforeEnd r0 r2 c0 c1
run_stop_all {r0 = r0} {r1 = r1} {r2 = r2} {c0 = c0} {c1 = c1} so_far lines keeps = record {
  read = so_far.read;
  written = so_far.past.moves.written;
  taken = Consumes-kept r0 r1 r2 so_far.read so_far.taken keeps;
  put = so_far.past.moves.put;
  together = subst (IsOutputBeforeEnd so_far.read) (written-is c0 c1 so_far.past.added so_far.past.moves)
      (before_end so_far.past.answers (open_none lines));
}

-- the end was read
end-answers : (r0 r1 c0 c1 c2 : Option (List ℕ)) (kept : OpenPair) (count : ℕ) (left : List ℕ)
    → (so_far : RunSoFar r0 r1 c0 c1 kept count) → (all : AnswersAll (open_bytes kept) c1 c2 [] left)
    → IsOutput so_far.read (so_far.past.added ++ all.added)
    × Moves c0 c2 [] (so_far.past.added ++ all.added) left
end-answers r0 r1 c0 c1 c2 kept count left so_far all = (
  answers-all true all.added so_far.past.answers all.answers,
  moves-trans so_far.past.moves all.moves,
)

pub run_end : {r0 r1 r2 c0 c1 c2 : Option (List ℕ)} {kept : OpenPair} {count : ℕ} → RunSoFar r0 r1 c0 c1 kept count
    → Consumes r1 r2 [] → AnswersAll (open_bytes kept) c1 c2 [] [] → Exchanges IsOutput r0 r2 c0 c2
run_end {r0 = r0} {r1 = r1} {r2 = r2} {c0 = c0} {c1 = c1} {c2 = c2} {kept = kept} {count = count} so_far taken all =
    let whole = end-answers r0 r1 c0 c1 c2 kept count [] so_far all in record {
      read = so_far.read ++ [];
      written = whole.1.written;
      taken = Consumes-trans r0 r1 r2 so_far.read [] so_far.taken taken;
      put = whole.1.put;
      together = subst (λ (l : List ℕ). IsOutput l whole.1.written) (sym (append-nil so_far.read))
          (subst (IsOutput so_far.read) (written-is c0 c2 (so_far.past.added ++ all.added) whole.1) whole.0);
    }

pub run_end_part : (Ended : Type 0) {r0 r1 r2 c0 c1 c2 : Option (List ℕ)} {kept : OpenPair} {count : ℕ}
    → RunSoFar r0 r1 c0 c1 kept count → Consumes r1 r2 [] → Ended → AnswersAllInPart (open_bytes kept) c1 c2 []
    → Exchanges (IsOutputPrefix Ended) r0 r2 c0 c2
run_end_part Ended {r0 = r0} {r1 = r1} {r2 = r2} {c0 = c0} {c1 = c1} {c2 = c2} {kept = kept} {count = count} so_far
    taken ended some =
    let whole = end-answers r0 r1 c0 c1 c2 kept count some.left so_far some.all in record {
      read = so_far.read ++ [];
      written = whole.1.written;
      taken = Consumes-trans r0 r1 r2 so_far.read [] so_far.taken taken;
      put = whole.1.put;
      together = (
        true,
        λ is_end. ended,
        (
          some.left,
          subst (λ (l : List ℕ). IsOutput l (whole.1.written ++ some.left)) (sym (append-nil so_far.read))
              (subst (IsOutput so_far.read) whole.1.all whole.0),
        ),
      );
    }

-- so many reads gave at least as many bytes
pub run_least : (r0 r1 : Option (List ℕ)) {c0 c1 : Option (List ℕ)} {kept : OpenPair} {count : ℕ} (least : ℕ)
    → RunSoFar r0 r1 c0 c1 kept count → least ≤ count → IfSome r0 (λ bytes. least ≤ length bytes)
run_least None r1 least so_far enough = tt
run_least (Some all) None least so_far enough = absurd so_far.taken
run_least (Some all) (Some rest) least so_far enough =
    let read = so_far.least in rw (so_far.taken, length-append) (omega arith)

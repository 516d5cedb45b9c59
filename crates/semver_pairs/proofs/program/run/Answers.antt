use Rattle.std.proofs.Common.{◌≡◌, ◌↔◌, ◌⊎◌, ◌<◌, ◌≤◌, length, take, Bool, false, IsTrue, arith, inl, inr, refl, sym}
use Rattle.std.proofs.Common.{◌∙◌}
use Rattle.std.proofs.KnownBytes.{Keeps-refl}
use Rattle.std.proofs.lemmas.Grind.{common_steps}
use Rattle.std.proofs.lemmas.Result.{MatchResult-weaker}
use Rattle.semver_pairs.specs.Output.{HasEnded}
use Rattle.semver_pairs.proofs.OutputLemmas.{exchanges-none_back, exchanges-nothing, false_not_true, has_ended}
use Rattle.semver_pairs.specs.declared.run_error.RunError.TheVariants.{Endless, Read, Write}
use Rattle.semver_pairs.proofs.FailureLemmas.{no_other, on_err, tells-not_endless, tells-not_read, tells-on}
use Rattle.semver_pairs.proofs.FailureLemmas.{tells-write}
use Rattle.semver_pairs.proofs.RunLemmas.{run_end, run_end_part, run_least, run_more, run_none, run_part, run_stop}
use Rattle.semver_pairs.proofs.RunLemmas.{run_stop_all}
use Rattle.semver_pairs.proofs.program.run.Goals as goal

-- what a gauge that has not failed says
unfailed : {A P : Type 0} {failed : Bool} → (IsTrue failed ↔ A) → failed ≡ false → A → P
unfailed told is a = false_not_true (sym is ∙ told.1 a)

-- neither gauge had failed
none_failed : {A B P : Type 0} {one other : Bool} → (IsTrue one ↔ A) → one ≡ false → (IsTrue other ↔ B) → other ≡ false
    → A ⊎ B → P
none_failed told is told' is' (inl a) = unfailed told is a
none_failed told is told' is' (inr b) = unfailed told' is' b

pub returns-then-failed : goal.returns-then-failed
returns-then-failed g c = record {
  answered = tt;
  ended = tt;
  beginning = exchanges-nothing _;
  complete = λ is. exchanges-none_back;
  read = (λ is. c.failed.ensures.0 c.if-failed.true, λ failed. refl);
  write = λ unfailed. (
    λ is. no_other Read Write refl is,
    λ failed. absurd (unfailed (c.failed.ensures.0 c.if-failed.true)),
  );
  endless = λ is. no_other Read Endless refl is;
  untouched = λ failed. (refl, refl);
}

pub returns-then-failed-2 : goal.returns-then-failed-2
returns-then-failed-2 g c = record {
  answered = tt;
  ended = tt;
  beginning = exchanges-nothing _;
  complete = λ is. no_other Write Read refl is;
  read = (λ is. no_other Write Read refl is, unfailed c.failed.ensures c.if-failed.false);
  write = λ unfailed. (λ is. c.failed-2.ensures.0 c.if-failed-2.true, λ failed. refl);
  endless = λ is. no_other Write Endless refl is;
  untouched = λ failed. (refl, refl);
}

pub reads-init : goal.reads-init
reads-init g c = (
  run_none c.new-kept.ensures.none,
  c.new-kept.ensures.lines,
  c.new-answers.ensures,
  unfailed c.failed.ensures c.if-failed.false,
  unfailed c.failed-2.ensures c.if-failed-2.false,
)

pub read-requires : goal.read-requires
read-requires g c = c.reads.invariant.3

pub answer_last-requires : goal.answer_last-requires
answer_last-requires g c = record {
  lines = c.reads.invariant.1;
  written = c.reads.invariant.2;
  unfailed = c.reads.invariant.4;
}

pub answer_piece-requires : goal.answer_piece-requires
answer_piece-requires g c = record {
  lines = c.reads.invariant.1;
  written = c.reads.invariant.2;
  unfailed = c.reads.invariant.4;
}

-- the end was read
pub returns-in-Ok-eq0 : goal.returns-in-Ok-eq0
returns-in-Ok-eq0 g c =
    let answers = c.answer_last.ensures.answers in
    let failure = c.answer_last.ensures.failure in
    let room : 0 < length c.read.new.piece = omega arith in
    let ended = has_ended g.R.Read.remaining c.read.new.self c.read.new.piece _ c.in-Ok-eq0.field-0-test room
    c.in-Ok-eq0.ensures.end c.in-Ok-eq0.ensures.bytes.1 (λ failed. false_not_true (c.in-Ok-eq0.ensures.mark.0 failed))
    in
    let taken = rw c.in-Ok-eq0.field-0-test at c.in-Ok-eq0.ensures.bytes.0 in
    record {
      answered = MatchResult-weaker _ answers (λ x all. run_end c.reads.invariant.0 taken all) (λ e some. tt);
      ended = MatchResult-weaker _ answers (λ x all. ended) (λ e some. tt);
      beginning = MatchResult-weaker _ answers (λ x all. tt)
          (λ e some. run_end_part (HasEnded g.R.Read.remaining c.read.new.self) c.reads.invariant.0 taken ended some);
      complete = λ is. absurd (tells-not_read _ _ failure is);
      read = (
        λ is. absurd (tells-not_read _ _ failure is),
        λ failed. false_not_true (c.in-Ok-eq0.ensures.mark.0 failed),
      );
      write = λ unfailed. tells-write _ failure;
      endless = λ is. absurd (tells-not_endless _ _ failure is);
      untouched = none_failed c.failed.ensures c.if-failed.false c.failed-2.ensures c.if-failed-2.false;
    }

-- a piece was not answered to its end
pub returns-in_err-answer_piece-in-Ok : goal.returns-in_err-answer_piece-in-Ok
returns-in_err-answer_piece-in-Ok g c =
    let failed = c.from_residual.ensures.0 in
    let failure = tells-on _ _ _ c.from_residual.ensures.1 c.in_err-answer_piece-in-Ok.ensures.failure in
    let some = run_part (HasEnded g.R.Read.remaining c.read.new.self) _ c.reads.invariant.0
    c.in-Ok.ensures.bytes.0 c.in_err-answer_piece-in-Ok.ensures.answers in
    record {
      answered = on_err _ _ failed tt;
      ended = on_err _ _ failed tt;
      beginning = on_err _ _ failed some;
      complete = λ is. absurd (tells-not_read _ _ failure is);
      read = (
        λ is. absurd (tells-not_read _ _ failure is),
        λ failed. false_not_true (c.in-Ok.ensures.mark.0 failed),
      );
      write = λ unfailed. tells-write _ failure;
      endless = λ is. absurd (tells-not_endless _ _ failure is);
      untouched = none_failed c.failed.ensures c.if-failed.false c.failed-2.ensures c.if-failed-2.false;
    }

-- a read failed
pub returns-in-Err : goal.returns-in-Err
returns-in-Err g c = record {
  answered = tt;
  ended = tt;
  beginning = run_stop (HasEnded g.R.Read.remaining c.read.new.self) c.reads.invariant.0 c.in-Err.ensures.bytes;
  complete = λ is. run_stop_all c.reads.invariant.0 c.reads.invariant.1 c.in-Err.ensures.bytes;
  read = (λ is. c.in-Err.ensures.mark.1 refl, λ failed. refl);
  write = λ unfailed. (λ is. no_other Read Write refl is, λ failed. absurd (c.reads.invariant.4 failed));
  endless = λ is. no_other Read Endless refl is;
  untouched = none_failed c.failed.ensures c.if-failed.false c.failed-2.ensures c.if-failed-2.false;
}

pub reads-preserved : goal.reads-preserved
reads-preserved g c =
    let given = c.in_ok-answer_piece-in-Ok.ensures in
    let some : 1 ≤ length (take c.in-Ok.count c.read.new.piece) =
    grind (arith, common_steps, c.in-Ok.ensures.at_most, c.in-Ok.count-test) in (
      run_more _ c.reads.invariant.0 c.in-Ok.ensures.bytes.0 some given.answers,
      given.lines,
      given.written,
      λ failed. false_not_true (c.in-Ok.ensures.mark.0 failed),
      given.failure,
    )

-- the input does not end
pub returns : goal.returns
returns g c = record {
  answered = tt;
  ended = tt;
  beginning = run_stop (HasEnded g.R.Read.remaining c.reads.reader) c.reads.invariant.0 (Keeps-refl _);
  complete = λ is. no_other Endless Read refl is;
  read = (λ is. no_other Endless Read refl is, λ failed. absurd (c.reads.invariant.3 failed));
  write = λ unfailed. (λ is. no_other Endless Write refl is, λ failed. absurd (c.reads.invariant.4 failed));
  endless = λ is. run_least _ _ _ c.reads.invariant.0 c.reads-test.false;
  untouched = none_failed c.failed.ensures c.if-failed.false c.failed-2.ensures c.if-failed-2.false;
}

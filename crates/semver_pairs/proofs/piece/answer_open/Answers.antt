-- The open pair is answered alone, or nothing is.
use Rattle.std.proofs.Common.{refl}
use Rattle.semver_pairs.proofs.FailureLemmas.{memory-tells, on_err, tells-on}
use Rattle.semver_pairs.proofs.MoveLemmas.{open_none-past, open_part, open_whole, past_stop}
use Rattle.semver_pairs.proofs.piece.answer_open.Goals as goal

pub returns-then-is_empty : goal.returns-then-is_empty
returns-then-is_empty g c = record {
  answers = open_none-past c.args.kept.now (c.is_empty.ensures.0 c.if-is_empty.true);
  left = tt;
  untouched = tt;
  failure = c.requires.unfailed;
}

-- no memory for the rest of the pair
pub returns-in_err-rest : goal.returns-in_err-rest
returns-in_err-rest g c =
    let some = past_stop in
    record {
      answers = on_err _ _ c.from_residual.ensures.0 some;
      left = on_err _ _ c.from_residual.ensures.0 tt;
      untouched = on_err _ _ c.from_residual.ensures.0 tt;
      failure = tells-on _ _ _ c.from_residual.ensures.1
          (memory-tells _ c.in_err-rest.ensures.memory c.requires.unfailed);
    }

pub returns-in_default : goal.returns-in_default
returns-in_default g c = record {
  answers = tt;
  left = (
    rw c.in_default.is at c.in_ok-rest.ensures.lines,
    rw c.in_default.is at c.in_ok-rest.ensures.more,
  );
  untouched = (refl, refl);
  failure = c.requires.unfailed;
}

pub returns-in_err-answer_one : goal.returns-in_err-answer_one
returns-in_err-answer_one g c =
    let begins = rw c.in-Some.is at c.in_ok-rest.ensures.whole in
    let part = rw (c.range.ensures, c.without_return-version.ensures.line, c.version.ensures)
    at c.in_err-answer_one.ensures.answers in
    let some = open_part begins part in
    record {
      answers = on_err _ _ c.from_residual-in_err-answer_one.ensures.0 some;
      left = on_err _ _ c.from_residual-in_err-answer_one.ensures.0 tt;
      untouched = on_err _ _ c.from_residual-in_err-answer_one.ensures.0 tt;
      failure = tells-on _ _ _ c.from_residual-in_err-answer_one.ensures.1 c.in_err-answer_one.ensures.failure;
    }

pub returns : goal.returns
returns g c =
    let begins = rw c.in-Some.is at c.in_ok-rest.ensures.whole in
    let answers = rw (c.range.ensures, c.without_return-version.ensures.line, c.version.ensures)
    at c.in_ok-answer_one.ensures.answers in
    record {
      answers = open_whole begins answers;
      left = tt;
      untouched = tt;
      failure = c.in_ok-answer_one.ensures.failure;
    }

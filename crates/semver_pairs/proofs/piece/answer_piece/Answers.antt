-- The open pair is answered, then those that are whole in the piece, and what waits is written.
use Rattle.std.proofs.Common.{refl, ◌∙◌}
use Rattle.semver_pairs.proofs.FailureLemmas.{either_way, on_err, tells-memory, tells-on, write-tells}
use Rattle.semver_pairs.proofs.MoveLemmas.{past_same, piece_all, piece_open, piece_pairs, piece_part, piece_stop}
use Rattle.semver_pairs.proofs.piece.answer_piece.Goals as goal

pub returns-in_err-rest : goal.returns-in_err-rest
returns-in_err-rest g c =
    let some = rw c.requires.written at c.in_err-rest.ensures.answers in
    record {
      answers = on_err _ _ c.from_residual.ensures.0 some;
      lines = on_err _ _ c.from_residual.ensures.0 tt;
      written = on_err _ _ c.from_residual.ensures.0 tt;
      failure = tells-on _ _ _ c.from_residual.ensures.1 c.in_err-rest.ensures.failure;
    }

pub returns-in_default : goal.returns-in_default
returns-in_default g c =
    let left = rw c.in_default.is at c.in_ok-rest.ensures.left in
    let untouched = rw c.in_default.is at c.in_ok-rest.ensures.untouched in
    record {
      answers = piece_open g.W.Write.contents _ _ left.1 untouched.1;
      lines = left.0;
      written = untouched.0 ∙ c.requires.written;
      failure = c.in_ok-rest.ensures.failure;
    }

pub returns-in_err-rest-2 : goal.returns-in_err-rest-2
returns-in_err-rest-2 g c =
    let before = rw (c.in-Some.is, c.requires.written) at c.in_ok-rest.ensures.answers in
    let some = piece_pairs before c.in_err-rest-2.ensures.answers in
    record {
      answers = on_err _ _ c.from_residual-in_err-rest-2.ensures.0 some;
      lines = on_err _ _ c.from_residual-in_err-rest-2.ensures.0 tt;
      written = on_err _ _ c.from_residual-in_err-rest-2.ensures.0 tt;
      failure = tells-on _ _ _ c.from_residual-in_err-rest-2.ensures.1 c.in_err-rest-2.ensures.failure;
    }

pub returns-in_err-flush : goal.returns-in_err-flush
returns-in_err-flush g c =
    let before = rw (c.in-Some.is, c.requires.written) at c.in_ok-rest.ensures.answers in
    let some = piece_part before c.in_ok-rest-2.ensures.answers c.in_err-flush.ensures.part in
    record {
      answers = on_err _ _ c.from_residual-in_err-flush.ensures.0 some;
      lines = on_err _ _ c.from_residual-in_err-flush.ensures.0 tt;
      written = on_err _ _ c.from_residual-in_err-flush.ensures.0 tt;
      failure = tells-on _ _ _ c.from_residual-in_err-flush.ensures.1
          (write-tells _ c.in_err-flush.ensures.only (c.in_err-flush.ensures.write.0 refl));
    }

pub returns : goal.returns
returns g c =
    let before = rw (c.in-Some.is, c.requires.written) at c.in_ok-rest.ensures.answers in
    let put = c.in_ok-flush.ensures.all in
    let all = piece_all before c.in_ok-rest-2.ensures.answers put in
    let some = piece_stop before c.in_ok-rest-2.ensures.answers put in
    record {
      answers = either_way _ c.begin.ensures.bytes (λ begun. past_same begun all) some;
      lines = c.begin.ensures.lines;
      written = either_way _ c.begin.ensures.bytes (λ begun. c.in_ok-flush.ensures.none) tt;
      failure = tells-memory _ c.begin.ensures.memory (λ failed. cc (c.in_ok-flush.ensures.write.1 failed));
    }

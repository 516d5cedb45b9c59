use Rattle.std.proofs.Common.{arith, refl}
use Rattle.std.specs.Str.Lines.{strip_carriage_return}
use Rattle.semver_pairs.proofs.MoveLemmas.{so_far_end, so_far_more, so_far_none, so_far_part}
use Rattle.semver_pairs.proofs.FailureLemmas.{on_err, tells-on, write-tells}
use Rattle.semver_pairs.proofs.answering.answer_versions.Goals as goal

pub returns-in_err-put : goal.returns-in_err-put
returns-in_err-put g c =
    let answer = c.answer_of-answer.ensures.answer (strip_carriage_return c.args.pair.now.range.now) c.requires.range in
    let part = rw c.as_bytes.ensures.value at c.in_err-put.ensures.part in
    let some = so_far_part c.versions.invariant.0 answer part in
    record {
      answers = on_err _ _ c.from_residual.ensures.0 some;
      fewer = on_err _ _ c.from_residual.ensures.0 tt;
      ascii = on_err _ _ c.from_residual.ensures.0 tt;
      failure = tells-on _ _ _ c.from_residual.ensures.1
          (write-tells _ c.in_err-put.ensures.only (c.in_err-put.ensures.write.0 refl));
    }

pub returns-in_default : goal.returns-in_default
returns-in_default g c =
    let answer = c.answer_of-answer.ensures.answer (strip_carriage_return c.args.pair.now.range.now) c.requires.range in
    let moves = rw c.as_bytes.ensures.value at c.in_ok-put.ensures.put in
    record {
      answers = so_far_end c.versions.invariant.0 answer moves;
      fewer = c.versions.invariant.2;
      ascii = λ is. (c.versions.invariant.3 is).1;
      failure = λ failed. cc (c.in_ok-put.ensures.write.1 failed);
    }

pub versions-preserved : goal.versions-preserved
versions-preserved g c =
    let answer = c.answer_of-answer.ensures.answer (strip_carriage_return c.args.pair.now.range.now) c.requires.range in
    let moves = rw c.as_bytes.ensures.value at c.in_ok-put.ensures.put in (
      so_far_more c.versions.invariant.0 answer moves c.in-Some.ensures.found,
      λ failed. cc (c.in_ok-put.ensures.write.1 failed),
      omega (arith, c.in-Some.ensures.fewer),
      λ is. c.in-Some.ensures.ascii (c.versions.invariant.3 is).1,
    )

pub versions-init : goal.versions-init
versions-init g c = (so_far_none, c.requires.unfailed, omega arith, c.requires.ascii)

use Rattle.std.proofs.Common.{arith, sym}
use Rattle.std.proofs.lemmas.List.{take_all, take_rest}
use Rattle.semver_texts.specs.Lemmas.Texts.Places.{over-end, over-step, over-stop}
use Rattle.semver_texts.proofs.parse.skip.split.Goals as goal

pub returns-then-not-passes-clause-prefix : goal.returns-then-not-passes-clause-prefix
returns-then-not-passes-clause-prefix g c test is_test = grind (arith, over-stop)

pub returns-then-not-passes-clause-rest : goal.returns-then-not-passes-clause-rest
returns-then-not-passes-clause-rest g c test is_test = grind (arith, take_rest, over-stop)

pub run-preserved : goal.run-preserved
run-preserved g c = (
  c.run.invariant.0,
  λ test is_test. over-step test c.args.text.now c.run.i c.run-test.true
      (sym (is_test _ _ (omega arith) c.if-not-passes.ensures)) (c.run.invariant.1 test is_test),
)

pub returns-clause-prefix : goal.returns-clause-prefix
returns-clause-prefix g c test is_test = grind (arith, over-end, take_all)

pub returns-clause-rest : goal.returns-clause-rest
returns-clause-rest g c test is_test = grind (arith, take_rest, over-end)

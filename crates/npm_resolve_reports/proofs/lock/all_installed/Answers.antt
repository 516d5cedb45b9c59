-- The package of one version more.
use Rattle.std.proofs.Common.{[]}
use Rattle.npm_pick.specs.Lemmas.Gathering.{made_all, made_at}
use Rattle.npm_resolve.specs.Answers.{chosen_value}
use Rattle.npm_resolve_reports.specs.Locks.{installed_by}
use Rattle.npm_resolve_reports.proofs.lock.all_installed.Goals as goal

pub loop-one-preserved : goal.loop-one-preserved
loop-one-preserved c = made_at chosen_value c.args.chosen.now (installed_by c.args.documents.now) []
    c.loop-one.one-index _ _ _ c.loop-one-test.true c.in_ok-add_installed.ensures c.loop-one.invariant

pub returns : goal.returns
returns c = made_all chosen_value c.args.chosen.now (installed_by c.args.documents.now) []
    c.loop-one.one-index _ c.loop-one-test.false c.loop-one.invariant

-- What one candidate more asks.
use Rattle.std.proofs.Common.{map}
use Rattle.npm_packages.specs.Rules.{rule_at}
use Rattle.npm_resolve.specs.Asks.{ask_value}
use Rattle.npm_resolve.specs.Instance.{IsAsker}
use Rattle.npm_pick.specs.Lemmas.Zips.{item_more}
use Rattle.npm_resolve.proofs.instance.askers_of.Goals as goal

pub loop-candidate-preserved : goal.loop-candidate-preserved
loop-candidate-preserved c = rw c.in_ok-push.ensures.items (item_more (IsAsker c.args.reach (rule_at c.args.rules.now) c.args.omits) c.args.candidates.now
    c.loop-candidate.askers.items c.loop-candidate.candidate-index c.candidate-item.result _ c.loop-candidate-test.true
    c.candidate-item.is c.loop-candidate.invariant
    (map ask_value c.in_ok-found.found.left_out.items, c.in_ok-found.ensures))

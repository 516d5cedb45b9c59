-- A rule inside fits, or the rule itself is looked at, or there is none.
use Rattle.std.proofs.Common.{map}
use Rattle.std.proofs.lemmas.Result.{IfOk-weaker}
use Rattle.npm_overrides.specs.Choice.{inside, nowhere}
use Rattle.npm_overrides.specs.Rules.{rule_value}
use Rattle.npm_overrides.proofs.Choosing.{past_all, there_at}
use Rattle.npm_overrides.proofs.rules.Rules.step.Goals as goal

pub returns-in-Some-2 : goal.returns-in-Some-2
returns-in-Some-2 c = inside c.args.at c.in-Some-2.found (rw c.in-Some-2.is at c.in_ok-found-in-Some.ensures)

pub returns-in-None-2 : goal.returns-in-None-2
returns-in-None-2 c =
    let missed = rw c.in-None-2.is at c.in_ok-found-in-Some.ensures in
    let there = there_at c.args.self.now.list.items c.deref.result.now c.args.at c.in-Some.rule.now c.deref.ensures.value
    c.in-Some.ensures.lookup.3.0 c.in-Some.ensures.lookup.1 in
    IfOk-weaker c.step_past.result _ _ (λ step is. is (map rule_value c.args.self.now.list.items) there missed) c.step_past.ensures

pub returns-in-None : goal.returns-in-None
returns-in-None c = nowhere c.args.at
    (past_all c.args.self.now.list.items c.deref.result.now c.args.at c.deref.ensures.value c.in-None.ensures.lookup.3)

use native.Mathlib.Omega.{arith}
use Rattle.std.proofs.Common.{rules, Some, None, false, refl}
use Rattle.node_semver.specs.Least.{BothAdmit}
use Rattle.node_semver.proofs.Least.BeyondAnswers.{some-wanted}
use Rattle.node_semver.proofs.Least.CommonAnswers.{common-least}
use Rattle.node_semver.proofs.range.Range.least_common.Goals as goal

pub returns-in_ok-built-in-Some-clause-least : goal.returns-in_ok-built-in-Some-clause-least
returns-in_ok-built-in-Some-clause-least c =
    let least = common-least false c.args.self.now c.args.other.now (Some c.in-Some.least) c.in-Some.ensures in search
    rules

pub returns-in_ok-built-in-Some-clause-none : goal.returns-in_ok-built-in-Some-clause-none
returns-in_ok-built-in-Some-clause-none c =
    some-wanted (BothAdmit c.args.self.now c.args.other.now) c.in-Some.least
    (common-least false c.args.self.now c.args.other.now (Some c.in-Some.least) c.in-Some.ensures)

pub returns-in_ok-built-in-Some-clause-build : goal.returns-in_ok-built-in-Some-clause-build
returns-in_ok-built-in-Some-clause-build c = grind (arith, common-least)

pub returns-in-None-clause-none : goal.returns-in-None-clause-none
returns-in-None-clause-none c =
    let none = common-least false c.args.self.now c.args.other.now None c.in-None.ensures in ((λ e. none), (λ e. refl))

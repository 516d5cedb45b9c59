use native.Mathlib.Omega.{arith}
use Rattle.std.proofs.Common.{rules, Some, None, false, refl}
use Rattle.node_semver.specs.Least.{AdmitsBeyond}
use Rattle.node_semver.proofs.Least.BeyondAnswers.{beyond-least, none-beyond, some-wanted}
use Rattle.node_semver.proofs.range.Range.least_beyond.Goals as goal

pub returns-in_ok-built-in-Some-clause-least : goal.returns-in_ok-built-in-Some-clause-least
returns-in_ok-built-in-Some-clause-least c =
    let least = beyond-least false c.args.self.now c.args.other.now (Some c.in-Some.least) c.in-Some.ensures in search
    rules

pub returns-in_ok-built-in-Some-clause-none : goal.returns-in_ok-built-in-Some-clause-none
returns-in_ok-built-in-Some-clause-none c =
    some-wanted (AdmitsBeyond c.args.self.now c.args.other.now) c.in-Some.least
    (beyond-least false c.args.self.now c.args.other.now (Some c.in-Some.least) c.in-Some.ensures)

pub returns-in_ok-built-in-Some-clause-admitted : goal.returns-in_ok-built-in-Some-clause-admitted
returns-in_ok-built-in-Some-clause-admitted c =
    let some = some-wanted (AdmitsBeyond c.args.self.now c.args.other.now) c.in-Some.least
    (beyond-least false c.args.self.now c.args.other.now (Some c.in-Some.least) c.in-Some.ensures) in
    (λ e. cc e, λ each. some.1 ((none-beyond false c.args.self.now c.args.other.now).1 each))

pub returns-in_ok-built-in-Some-clause-build : goal.returns-in_ok-built-in-Some-clause-build
returns-in_ok-built-in-Some-clause-build c = grind (arith, beyond-least)

pub returns-in-None-clause-none : goal.returns-in-None-clause-none
returns-in-None-clause-none c =
    let none = beyond-least false c.args.self.now c.args.other.now None c.in-None.ensures in ((λ e. none), (λ e. refl))

pub returns-in-None-clause-admitted : goal.returns-in-None-clause-admitted
returns-in-None-clause-admitted c =
    let none = beyond-least false c.args.self.now c.args.other.now None c.in-None.ensures in
    ((λ e. (none-beyond false c.args.self.now c.args.other.now).0 none), (λ e. refl))

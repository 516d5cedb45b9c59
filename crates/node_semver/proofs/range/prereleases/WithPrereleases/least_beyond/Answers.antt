use native.Mathlib.Omega.{arith}
use Rattle.std.proofs.Common.{rules, Some, None, true, refl}
use Rattle.node_semver.specs.Least.{ContainsBeyond}
use Rattle.node_semver.proofs.Least.BeyondAnswers.{beyond-seen, none-beyond, some-wanted}
use Rattle.node_semver.proofs.range.prereleases.WithPrereleases.least_beyond.Goals as goal

pub returns-in_ok-built-in-Some-clause-least : goal.returns-in_ok-built-in-Some-clause-least
returns-in_ok-built-in-Some-clause-least c =
    let least = beyond-seen true c.self.inside.range.now c.args.self.now c.args.other.now c.self.view_is
    (Some c.in-Some.least) c.in-Some.ensures in search rules

pub returns-in_ok-built-in-Some-clause-none : goal.returns-in_ok-built-in-Some-clause-none
returns-in_ok-built-in-Some-clause-none c =
    some-wanted (ContainsBeyond c.args.self.now c.args.other.now) c.in-Some.least
    (beyond-seen true c.self.inside.range.now c.args.self.now c.args.other.now c.self.view_is
    (Some c.in-Some.least) c.in-Some.ensures)

pub returns-in_ok-built-in-Some-clause-contained : goal.returns-in_ok-built-in-Some-clause-contained
returns-in_ok-built-in-Some-clause-contained c =
    let some = some-wanted (ContainsBeyond c.args.self.now c.args.other.now) c.in-Some.least
    (beyond-seen true c.self.inside.range.now c.args.self.now c.args.other.now c.self.view_is
    (Some c.in-Some.least) c.in-Some.ensures) in
    (λ e. cc e, λ each. some.1 ((none-beyond true c.args.self.now c.args.other.now).1 each))

pub returns-in_ok-built-in-Some-clause-build : goal.returns-in_ok-built-in-Some-clause-build
returns-in_ok-built-in-Some-clause-build c = grind (arith, beyond-seen)

pub returns-in-None-clause-none : goal.returns-in-None-clause-none
returns-in-None-clause-none c =
    let none = beyond-seen true c.self.inside.range.now c.args.self.now c.args.other.now c.self.view_is
    None c.in-None.ensures in ((λ e. none), (λ e. refl))

pub returns-in-None-clause-contained : goal.returns-in-None-clause-contained
returns-in-None-clause-contained c =
    let none = beyond-seen true c.self.inside.range.now c.args.self.now c.args.other.now c.self.view_is
    None c.in-None.ensures in
    ((λ e. (none-beyond true c.args.self.now c.args.other.now).0 none), (λ e. refl))

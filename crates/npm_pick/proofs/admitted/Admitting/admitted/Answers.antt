use Rattle.std.proofs.Common.{◌≡◌, subst}
use Rattle.npm_pick.specs.Private.Keeping.{IsInOne}
use Rattle.npm_pick.specs.Lemmas.Readings.{one_version}
use Rattle.npm_pick.proofs.admitted.Admitting.admitted.Goals as goal

pub returns-in_default-clause-none : goal.returns-in_default-clause-none
returns-in_default-clause-none c = λ within.
    let none = rw c.in_default.is at c.installed_version.ensures.none in absurd (none within.version within.read)

pub returns-then-not-is_in_one-clause-none : goal.returns-then-not-is_in_one-clause-none
returns-then-not-is_in_one-clause-none c = λ within.
    let same : within.version ≡ c.in-Some.version =
    one_version c.args.key.now within.version c.in-Some.version within.read c.in-Some.ensures.found in
    let in_one = rw c.deref.ensures.value at c.is_in_one.ensures in
    cc (in_one.1 (subst (IsInOne c.args.self.now.ranges.items) same within.admitted), c.if-not-is_in_one.true)

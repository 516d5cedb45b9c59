-- The dependency of a member comes before those of the members that are left.
use Rattle.std.proofs.Common.{◌≡◌, append_assoc, append-nil}
use Rattle.npm_pick_reports.proofs.mirror.asks.add_specs.Goals as goal

pub loop-name-preserved : goal.loop-name-preserved
loop-name-preserved c =
    let here = rw c.as_str.ensures.value at c.in_ok-add_spec.ensures in
    rw (here, append_assoc) (rw c.in-Some.ensures.steps at c.loop-name.invariant)

pub returns : goal.returns
returns c =
    let entries : c.into_iter-name-iterator.result ≡ c.args.specs.now.entries = cc in
    let all = rw c.in-None.ensures.steps.0 at c.loop-name.invariant in
    rw entries at (rw append-nil at all)

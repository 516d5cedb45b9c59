-- The version of a member comes before those of the members that are left.
use Rattle.std.proofs.Common.{◌≡◌, ◌++◌, [], append_assoc, append-nil, refl}
use Rattle.npm_pick_reports.proofs.mirror.installed.installed_among.Goals as goal

pub loop-folder-preserved : goal.loop-folder-preserved
loop-folder-preserved c = λ later are.
    let here = c.in_ok-add_package.ensures in
    let of_member = rw c.as_str-folder.ensures.value at here.1 in
    rw (here.2, append_assoc) (c.loop-folder.invariant (here.0 ++ later)
    (rw c.in-Some.ensures.steps (here.0, later, of_member, are, refl)))

pub returns : goal.returns
returns c =
    let entries : c.into_iter-folder-iterator.result ≡ c.args.members.now.entries = cc in
    let all = c.loop-folder.invariant [] (rw c.in-None.ensures.steps.0 refl) in
    rw entries at (rw append-nil at all)

-- The findings of a member come before those of the members that are left.
use Rattle.std.proofs.Common.{◌≡◌, ◌++◌, [], refl}
use Rattle.npm_texts.specs.Lemmas.Keys.{sorted_keys}
use Rattle.npm_lock.proofs.Reports.{adds_both, adds_none}
use Rattle.npm_lock.proofs.lock_file.problems_of.Goals as goal

pub loop-folder-init : goal.loop-folder-init
loop-folder-init c = λ later new are adds. (later, are, adds [] c.new-problems.ensures)

pub loop-folder-preserved : goal.loop-folder-preserved
loop-folder-preserved c = λ later new are adds.
    let here = c.in_ok-add_problems.ensures in
    let of_member = rw c.as_str-folder.ensures.value at here.1 in
    c.loop-folder.invariant (here.0 ++ later) new
    (rw c.in-Some.ensures.steps (here.0, later, of_member, are, refl))
    (adds_both _ _ _ here.0 later here.2 adds)

pub returns-clause-ascending : goal.returns-clause-ascending
returns-clause-ascending c = sorted_keys c.args.lock.members.now.entries c.iter-folder-items.ensures.ordered

pub returns-clause-found : goal.returns-clause-found
returns-clause-found c =
    let entries : c.into_iter-folder-iterator.result ≡ c.args.lock.members.now.entries = cc in
    let all = c.loop-folder.invariant [] c.loop-folder.problems (rw c.in-None.ensures.steps.0 refl)
    (adds_none c.loop-folder.problems) in
    (all.0, rw entries at all.1, all.2)

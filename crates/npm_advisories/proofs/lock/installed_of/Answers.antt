-- The package of a member comes before those of the members that are left.
use Rattle.std.proofs.Common.{◌≡◌, ◌∷◌, [], append_assoc, append-nil}
use Rattle.std.proofs.lemmas.List.{map-append}
use Rattle.npm_advisories.specs.Audit.{installed_value}
use Rattle.npm_advisories.specs.LockFile.{none, one_more, other}
use Rattle.npm_advisories.proofs.lock.installed_of.Goals as goal

pub loop-folder-preserved-in-Continue-branch-3 : goal.loop-folder-preserved-in-Continue-branch-3
loop-folder-preserved-in-Continue-branch-3 c = λ later are.
    let here = rw c.in-Some-2.is at c.in_ok-installed.ensures in
    let is = rw c.as_str.ensures.value at here in
    rw (
      c.in_ok-push.ensures.items,
      map-append installed_value c.loop-folder.all.items (c.in-Some-2.installed ∷ []),
      append_assoc,
    )
    (c.loop-folder.invariant (installed_value c.in-Some-2.installed ∷ later)
    (rw c.in-Some.ensures.steps (one_more _ _ _ _ _ is are)))

pub loop-folder-preserved : goal.loop-folder-preserved
loop-folder-preserved c = λ later are.
    let here = rw c.in_default.is at c.in_ok-installed.ensures in
    let is = rw c.as_str.ensures.value at here in
    c.loop-folder.invariant later (rw c.in-Some.ensures.steps (other _ _ _ _ is are))

pub returns : goal.returns
returns c =
    let entries : c.into_iter-folder-iterator.result ≡ c.args.members.now.entries = cc in
    let all = c.loop-folder.invariant [] (rw c.in-None.ensures.steps.0 none) in
    rw append-nil at (rw entries at all)

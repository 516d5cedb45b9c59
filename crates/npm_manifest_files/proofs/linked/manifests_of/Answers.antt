-- What was found in one folder more, or the manifest that was not read.
use Rattle.std.proofs.Common.{◌≡◌, [], Err, List, Ok, drop, get_or, inr, map, ℕ}
use Rattle.std.proofs.Common.{refl, rules}
use Rattle.std.proofs.lemmas.List.{drop_all}
use denote.Ref.{Bor}
use Rattle.std.specs.Fn.{FnReturnsAt}
use Rattle.npm_manifest_files.specs.Linked.{AreReadAfter, loaded_value, no_folder, with_found}
use Rattle.npm_manifest_files.proofs.ReadManifests.{found_more}
use Rattle.npm_manifest_files.proofs.linked.manifests_of.Goals as goal

pub loop-folder-init : goal.loop-folder-init
loop-folder-init g c = λ after read. rw (← c.nothing-made.ensures) read

pub returns-in-Err-read-clause-failed : goal.returns-in-Err-read-clause-failed
returns-in-Err-read-clause-failed g c =
    let none : Bor (List ℕ) = record { ref_ptr = (0, 0); now = [] } in
    let one = get_or c.deref-folder-items.result.now c.loop-folder.folder-index none in
    let gives : FnReturnsAt g.F.Fn c.args.read one.now (Err c.in-Err-read.error) =
    rw (← c.in-Err-read.is) (record { shown = one; shows = refl; says = record { met = c.read.ensures } }) in
    inr (one.now, gives)

pub loop-folder-preserved : goal.loop-folder-preserved
loop-folder-preserved g c =
    let none : Bor (List ℕ) = record { ref_ptr = (0, 0); now = [] } in
    let one = get_or c.deref-folder-items.result.now c.loop-folder.folder-index none in
    let gives : FnReturnsAt g.F.Fn c.args.read one.now (Ok c.in-Ok-read.found) =
    rw (← c.in-Ok-read.is) (record { shown = one; shows = refl; says = record { met = c.read.ensures } }) in
    let more : loaded_value c.add.new.made ≡ with_found one.now c.in-Ok-read.found (loaded_value c.loop-folder.made) =
    search rules in
    found_more (FnReturnsAt g.F.Fn c.args.read) c.deref-folder-items.result.now c.loop-folder.folder-index
    none c.loop-folder-test.true (loaded_value c.loop-folder.made) c.loop-folder.invariant
    c.in-Ok-read.found (loaded_value c.add.new.made) gives more

pub returns-clause-found : goal.returns-clause-found
returns-clause-found g c =
    let gone : drop c.loop-folder.folder-index c.deref-folder-items.result.now ≡ [] =
    drop_all c.loop-folder.folder-index c.deref-folder-items.result.now c.loop-folder-test.false in
    let ended : AreReadAfter (FnReturnsAt g.F.Fn c.args.read) (loaded_value c.loop-folder.made)
    (map (λ folder. folder.now) (drop c.loop-folder.folder-index c.deref-folder-items.result.now))
    (loaded_value c.loop-folder.made) =
    rw gone (no_folder (loaded_value c.loop-folder.made)) in (
      map (λ folder. folder.now) c.deref-folder-items.result.now,
      rw c.deref-folder-items.ensures.value c.in-Ok.ensures,
      c.loop-folder.invariant (loaded_value c.loop-folder.made) ended,
    )

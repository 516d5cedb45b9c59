-- A place is added, unless another one has its name in its folder.
use Rattle.std.proofs.Common.{◌≡◌, ◌==◌, ◌&&◌, None, Some, arith, bytes_eq, cond, false, is_some, true}
use Rattle.std.proofs.lemmas.Option.{slice_get_within}
use Rattle.npm_trees.specs.Private.Folders.{at_name}
use Rattle.npm_trees.proofs.Indexed.{at_index}
use Rattle.npm_trees.proofs.Indexing.{free, hit, indexed_more, no_hit, no_more, none_is, same_key, some_is, two_in}
use Rattle.npm_trees.proofs.folders.folders_of.Goals as goal
use Rattle.npm_trees.proofs.folders.folders_of.Goals.{in-Some+in_ok-insert-in-Some+else-is_some, in-None}

pub returns-then-is_some : goal.returns-then-is_some
returns-then-is_some c =
    let place = c.index-places-number.result in
    let there = at_index c.args.places.now c.loop-number.number place c.loop-number-test.true c.index-places-number.is in
    let old : c.in_ok-insert-in-Some.field-0 ≡ at_name c.loop-number.folders c.in-Some.up place.name.now = c.in_ok-insert-in-Some.ensures.old in
    let found : is_some c.in_ok-insert-in-Some.field-0 ≡ true = cc (c.is_some.ensures, c.if-is_some.true) in
    let k = some_is c.in_ok-insert-in-Some.field-0 found in
    let was : at_name c.loop-number.folders c.in-Some.up place.name.now ≡ Some k.0 = cc (old, k.1) in
    two_in c.args.places.now c.loop-number.number place there c.in-Some.up k.0 c.in-Some.is
    ((c.loop-number.invariant c.in-Some.up place.name.now k.0).0 was)

pub loop-number-preserved : goal.loop-number-preserved
loop-number-preserved c = λ folder name k.
    let places = c.args.places.now in
    let number = c.loop-number.number in
    let place = c.index-places-number.result in
    let there = at_index places number place c.loop-number-test.true c.index-places-number.is in
    elim c.match-place.branch [
      | in-Some+in_ok-insert-in-Some+else-is_some w ↦
          let up = w.in-Some.up in
          let old : w.in_ok-insert-in-Some.field-0 ≡ at_name c.loop-number.folders up place.name.now = w.in_ok-insert-in-Some.ensures.old in
          let found : is_some w.in_ok-insert-in-Some.field-0 ≡ false = cc (w.is_some.ensures, w.if-is_some.false) in
          let nothing = none_is w.in_ok-insert-in-Some.field-0 found in
          let none : at_name c.loop-number.folders up place.name.now ≡ None = cc (old, nothing) in
          let updated : at_name c.match-place.folders folder name
          ≡ cond ((up == folder) && bytes_eq place.name.now name) (Some number) (at_name c.loop-number.folders folder name) =
          rw w.folders-is (rw (same_key up folder place.name.now name) at (w.in_ok-insert-in-Some.ensures.updates.0 (folder, record { ref_ptr = (0, 0); now = name }))) in
          rw updated (indexed_more places folder name number k ((up == folder) && bytes_eq place.name.now name)
          (at_name c.loop-number.folders folder name) (hit places number place there up folder name w.in-Some.is)
          (free c.loop-number.folders up folder name place.name.now none) (c.loop-number.invariant folder name k))
      | in-None w ↦ rw w.folders-is (no_more places folder name number k (at_name c.loop-number.folders folder name)
          (no_hit places number place there folder name w.in-None.is) (c.loop-number.invariant folder name k))
    ]

pub returns : goal.returns
returns c = λ folder name k.
    let before = c.loop-number.invariant folder name k in (
      λ found. (before.0 found).1,
      λ in_it. before.1 (omega (arith, slice_get_within c.args.places.now k in_it.place in_it.there, c.loop-number-test.false), in_it),
    )

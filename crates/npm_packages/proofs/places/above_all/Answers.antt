-- The folders before the next one have what is above them, so what is above the next one is found.
use Rattle.std.proofs.Common.{◌≡◌, inr, refl}
use Rattle.std.specs.List.Sorted.{IsStrictlySortedBy}
use Rattle.npm_packages.proofs.Above.{before, by_folder_left, first_folder, none_above, one_above}
use Rattle.npm_packages.proofs.LastPlaces.{key_of}
use Rattle.npm_packages.proofs.places.above_all.Goals as goal

pub loop-key-init : goal.loop-key-init
loop-key-init c =
    let entries : c.into_iter-key-iterator.result ≡ c.args.places.now.entries = cc in
    record {
      sorted = rw entries c.iter-key-items.ensures.ordered;
      by_folder = λ name folder. rw entries (c.requires name folder);
      all = λ name folder some. inr (rw entries some, rw c.new-above.ensures.empty refl);
    }

pub next_above-requires-clause-above : goal.next_above-requires-clause-above
next_above-requires-clause-above c =
    let sorted = rw c.in-Some.ensures.steps at c.loop-key.invariant.sorted in
    let by_folder = rw c.in-Some.ensures.steps at c.loop-key.invariant.by_folder in
    let all = rw c.in-Some.ensures.steps at c.loop-key.invariant.all in
    let first = first_folder (c.in-Some.key.now, c.in-Some.hit.now) c.next.new.self sorted by_folder in
    λ other less. before (c.in-Some.key.now, c.in-Some.hit.now) c.next.new.self sorted c.args.places.now c.loop-key.above
    all other (rw first at less)

pub loop-key-preserved-in_ok-insert : goal.loop-key-preserved-in_ok-insert
unfolding IsStrictlySortedBy
loop-key-preserved-in_ok-insert c =
    let sorted = rw c.in-Some.ensures.steps at c.loop-key.invariant.sorted in
    let by_folder = rw c.in-Some.ensures.steps at c.loop-key.invariant.by_folder in
    let all = rw c.in-Some.ensures.steps at c.loop-key.invariant.all in
    let first = first_folder (c.in-Some.key.now, c.in-Some.hit.now) c.next.new.self sorted by_folder in
    record {
      sorted = sorted.1;
      by_folder = by_folder_left (c.in-Some.key.now, c.in-Some.hit.now) c.next.new.self sorted by_folder;
      all = one_above (c.in-Some.key.now, c.in-Some.hit.now) c.next.new.self sorted c.args.places.now c.loop-key.above all
          c.insert.new.self c.in-Some-next_above.next
          (rw first at (rw c.in-Some-next_above.is at c.next_above.ensures))
          (λ name folder. c.in_ok-insert.ensures.updates.0 (key_of name folder));
    }

pub loop-key-preserved : goal.loop-key-preserved
unfolding IsStrictlySortedBy
loop-key-preserved c =
    let sorted = rw c.in-Some.ensures.steps at c.loop-key.invariant.sorted in
    let by_folder = rw c.in-Some.ensures.steps at c.loop-key.invariant.by_folder in
    let all = rw c.in-Some.ensures.steps at c.loop-key.invariant.all in
    let first = first_folder (c.in-Some.key.now, c.in-Some.hit.now) c.next.new.self sorted by_folder in
    record {
      sorted = sorted.1;
      by_folder = by_folder_left (c.in-Some.key.now, c.in-Some.hit.now) c.next.new.self sorted by_folder;
      all = none_above (c.in-Some.key.now, c.in-Some.hit.now) c.next.new.self sorted c.args.places.now c.loop-key.above
          all (rw first at (rw c.in_default.is at c.next_above.ensures));
    }

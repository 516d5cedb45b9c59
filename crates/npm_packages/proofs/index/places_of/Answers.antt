-- Each member is added in turn.
use Rattle.std.proofs.Common.{◌≡◌, inl, inr, string_bytes}
use Rattle.std.specs.List.Sorted.{IsStrictlySortedBy}
use Rattle.serde_json.specs.View.{members_view, view}
use Rattle.npm_packages.specs.Folders.{place_in}
use Rattle.npm_packages.specs.PackageValue.{packages_data}
use Rattle.npm_packages.proofs.Indexing.{first_member, has_next, later_member, some_member}
use Rattle.npm_packages.proofs.Groups.{absent}
use Rattle.npm_packages.proofs.index.places_of.Goals as goal

pub loop-folder-init : goal.loop-folder-init
loop-folder-init c =
    let entries : c.into_iter-folder-iterator.result ≡ c.args.lock.members.now.entries = cc in
    record {
      sorted = rw entries c.iter-folder-items.ensures.ordered;
      members = λ key value is. is;
      sound = λ name folder. rw c.new-places.ensures.empty tt;
      complete = λ name folder found plain is.
          inr (rw entries (some_member (packages_data c.args.lock) (place_in folder name) found is.found));
    }

pub add_member-requires : goal.add_member-requires
add_member-requires c =
    let entries : c.into_iter-folder-iterator.result ≡ c.args.lock.members.now.entries = cc in
    let here = c.loop-folder.invariant.members (string_bytes c.in-Some.folder.now) (view c.in-Some.member.now)
    (rw c.in-Some.ensures.steps (first_member (string_bytes c.in-Some.folder.now) (view c.in-Some.member.now)
    (members_view c.next.new.self))) in
    rw (c.as_str-folder.ensures.value, ← entries) here

pub loop-folder-preserved : goal.loop-folder-preserved
unfolding IsStrictlySortedBy
loop-folder-preserved c =
    let sorted = rw c.in-Some.ensures.steps at c.loop-folder.invariant.sorted in
    let more = rw c.as_str-folder.ensures.value at c.in_ok-add_member.ensures in
    record {
      sorted = sorted.1;
      members = λ key value is. c.loop-folder.invariant.members key value
          (rw c.in-Some.ensures.steps (later_member key (string_bytes c.in-Some.folder.now)
          (view c.in-Some.member.now) value (members_view c.next.new.self)
          (absent c.in-Some.folder.now c.next.new.self sorted.0) is));
      sound = more.sound c.loop-folder.invariant.sound;
      complete = λ name folder found plain is. has_next (packages_data c.args.lock) c.loop-folder.places _ name folder _ _
          (members_view c.next.new.self) found plain is more
          (rw c.in-Some.ensures.steps at (c.loop-folder.invariant.complete name folder found plain is));
    }

pub returns : goal.returns
returns c = record {
  sound = c.loop-folder.invariant.sound;
  complete = λ name folder found plain is. elim
      (rw c.in-None.ensures.steps.0 at (c.loop-folder.invariant.complete name folder found plain is)) [
        | inl there ↦ there
        | inr left ↦ cc left
      ];
}

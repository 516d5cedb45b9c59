-- A member leads to a folder that is inserted, or to none.
use Rattle.std.proofs.Common.{◌≡◌, inl, inr, string_bytes}
use Rattle.std.specs.List.Sorted.{IsStrictlySortedBy}
use Rattle.serde_json.specs.View.{members_view, view}
use Rattle.npm_packages.specs.Lemmas.FolderMaps.{more_that, names_that, one_folder, passed}
use Rattle.npm_packages.specs.LinkedFolders.{IsLinkTo}
use Rattle.npm_packages.specs.PackageValue.{packages_data}
use Rattle.npm_packages.proofs.Groups.{absent}
use Rattle.npm_packages.proofs.LinkedLists.{one_member, passed_by}
use Rattle.npm_packages.proofs.linked.folders_of.Goals as goal

pub loop-member-init : goal.loop-member-init
loop-member-init c =
    let entries : c.into_iter-member-iterator.result ≡ c.args.lock.members.now.entries = cc in
    record {
      sorted = rw entries c.iter-member-items.ensures.ordered;
      all = λ folder. (
        (λ among. inr among),
        (λ either. elim either [
          | inl has ↦ cc (rw c.new-folders.ensures.empty at has)
          | inr among ↦ among
        ]),
      );
    }

pub loop-member-preserved-in_ok-insert : goal.loop-member-preserved-in_ok-insert
unfolding IsStrictlySortedBy
loop-member-preserved-in_ok-insert c =
    let sorted = rw c.in-Some.ensures.steps at c.loop-member.invariant.sorted in
    record {
      sorted = sorted.1;
      all = λ folder.
          let left = one_member (packages_data c.args.lock) folder (string_bytes c.in-Some.field-0-0.now)
          (view c.in-Some.member.now) (members_view c.next.new.self)
          (absent c.in-Some.field-0-0.now c.next.new.self sorted.0) in
          let named = names_that c.folder_of.result c.in-Some-folder_of.folder folder
          (IsLinkTo (packages_data c.args.lock) (view c.in-Some.member.now) folder) c.in-Some-folder_of.is
          (c.folder_of.ensures folder) in
          let more = more_that named (one_folder c.loop-member.folders c.insert.new.self tt
          c.in-Some-folder_of.folder.now folder c.in_ok-insert.ensures.updates) in
          passed (rw c.in-Some.ensures.steps at c.loop-member.invariant.all folder) left more;
    }

pub loop-member-preserved : goal.loop-member-preserved
unfolding IsStrictlySortedBy
loop-member-preserved c =
    let sorted = rw c.in-Some.ensures.steps at c.loop-member.invariant.sorted in
    record {
      sorted = sorted.1;
      all = λ folder.
          let left = one_member (packages_data c.args.lock) folder (string_bytes c.in-Some.field-0-0.now)
          (view c.in-Some.member.now) (members_view c.next.new.self)
          (absent c.in-Some.field-0-0.now c.next.new.self sorted.0) in
          passed_by (rw c.in-Some.ensures.steps at c.loop-member.invariant.all folder) left
          (λ leads. cc (rw c.in_default.is at (c.folder_of.ensures folder).1 leads));
    }

pub returns : goal.returns
returns c = λ folder.
    let entries : c.into_iter-member-iterator.result ≡ c.args.lock.members.now.entries = cc in
    let all = rw (c.in-None.ensures.steps.0, entries) at c.loop-member.invariant.all folder in (
      (λ has.
          let linked = all.1 (inl has) in
          record { place = linked.0; link = linked.1; there = linked.2; leads = linked.3 }),
      (λ linked. elim (all.0 (linked.place, linked.link, linked.there, linked.leads)) [
        | inl has ↦ has
        | inr among ↦ cc among.2
      ]),
    )

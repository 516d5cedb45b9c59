-- The packages of a member come before those of the members that are left.
use Rattle.std.proofs.Common.{◌≡◌, ◌∙◌, ap, bytes_eq, codes, string_bytes, sym}
use Rattle.serde_json.specs.View.{members_view, view}
use Rattle.npm_packages.specs.Folders.{place_in}
use Rattle.npm_lock.specs.VersionOne.{packages_of_members, with_packages}
use Rattle.npm_lock.proofs.PackageLists.{entry_added, packages_added}
use Rattle.npm_texts.specs.Lemmas.Objects.{is_object}
use Rattle.npm_lock.proofs.version_one.+below.Goals as goal

pub add_below-loop-key-preserved-in-Continue-1 : goal.add_below-loop-key-preserved-in-Continue-1
add_below-loop-key-preserved-in-Continue-1 t c =
    let is = ap (λ s. bytes_eq s (codes "dependencies")) (sym c.as_str.ensures.value) ∙ sym c.if-eq.ensures in
    let first = rw c.in-Some.ensures.steps at c.loop-key.invariant in
    ap (with_packages (packages_of_members c.args.folder.now (members_view c.next.new.self))) c.in_ok-add_named.ensures
    ∙ sym (packages_added c.args.folder.now (string_bytes c.in-Some.key.now) (view c.in-Some.value.now)
    (members_view c.next.new.self) (members_view c.loop-key.packages.entries) is) ∙ first

pub add_below-returns-in-None : goal.add_below-returns-in-None
add_below-returns-in-None t c =
    let entries : c.into_iter-key-iterator.result ≡ c.in-Object.members.entries = cc in
    let last = rw (entries, c.in-None.ensures.steps.0) at c.loop-key.invariant in
    let whole = is_object c.args.entry.now c.in-Object.members c.in-Object.is in
    rw whole last

pub add_named-loop-name-preserved : goal.add_named-loop-name-preserved
add_named-loop-name-preserved t c =
    let first = rw c.in-Some.ensures.steps at c.loop-name.invariant in
    let place : string_bytes c.in_ok-text.text ≡ place_in c.args.folder.now (string_bytes c.in-Some.name.now) =
    c.in_ok-text.ensures ∙ ap (place_in c.args.folder.now) c.as_str.ensures.value in
    entry_added c.args.folder.now (string_bytes c.in-Some.name.now) (view c.in-Some.entry.now)
    (members_view c.next.new.self) c.as_str-place.result.now (view c.in_ok-member.member)
    (members_view c.loop-name.packages.entries) (members_view c.put.new.map.entries)
    (members_view c.add_below.new.packages.entries) (c.as_str-place.ensures.value ∙ place)
    c.in_ok-member.ensures c.in_ok-put.ensures.ok c.in_ok-add_below.ensures ∙ first

pub add_named-returns-in-None : goal.add_named-returns-in-None
add_named-returns-in-None t c =
    let entries : c.into_iter-name-iterator.result ≡ c.in-Object.entries.entries = cc in
    let last = rw (entries, c.in-None.ensures.steps.0) at c.loop-name.invariant in
    let whole = is_object c.args.dependencies.now c.in-Object.entries c.in-Object.is in
    rw whole last

-- The packages of a member come before those of the members that are left.
use Rattle.std.proofs.Common.{◌≡◌, ◌∙◌, ap, append-nil, bytes_eq, codes, map, string_bytes, sym}
use Rattle.serde_json.specs.View.{members_view, view}
use Rattle.npm_packages.specs.Folders.{place_in}
use Rattle.npm_lock.specs.Sources.{old_sources, source_value}
use Rattle.npm_lock.proofs.MoreSources.{entry_found, named_added}
use Rattle.npm_texts.specs.Lemmas.Objects.{is_object}
use Rattle.npm_lock.proofs.sources.+below.Goals as goal

pub add_below-loop-key-preserved-in-Continue-1 : goal.add_below-loop-key-preserved-in-Continue-1
add_below-loop-key-preserved-in-Continue-1 t c =
    let is = ap (λ s. bytes_eq s (codes "dependencies")) (sym c.as_str.ensures.value) ∙ sym c.if-eq.ensures in
    let whole = rw c.in-Some.ensures.steps at c.loop-key.invariant in
    named_added (old_sources (map string_bytes c.args.registries.now)) c.args.folder.now (string_bytes c.in-Some.key.now)
    (view c.in-Some.value.now) (members_view c.next.new.self) _ _ _ is whole c.in_ok-add_named.ensures

pub add_below-returns-in-None : goal.add_below-returns-in-None
add_below-returns-in-None t c =
    let entries : c.into_iter-key-iterator.result ≡ c.in-Object.members.entries = cc in
    let last = rw (entries, c.in-None.ensures.steps.0) at c.loop-key.invariant in
    let whole = is_object c.args.entry.now c.in-Object.members c.in-Object.is in
    rw whole (sym (append-nil _) ∙ last)

pub add_named-loop-name-preserved : goal.add_named-loop-name-preserved
add_named-loop-name-preserved t c =
    let whole = rw c.in-Some.ensures.steps at c.loop-name.invariant in
    let place : c.as_str-place.result.now ≡ place_in c.args.folder.now (string_bytes c.in-Some.name.now) =
    c.as_str-place.ensures.value ∙ c.in_ok-text.ensures ∙ ap (place_in c.args.folder.now) c.as_str.ensures.value in
    entry_found (old_sources (map string_bytes c.args.registries.now)) c.args.folder.now (string_bytes c.in-Some.name.now)
    (view c.in-Some.entry.now) (members_view c.next.new.self) _ _ _ _ whole (rw place at c.in_ok-add_old.ensures)
    (rw place at c.in_ok-add_below.ensures)

pub add_named-returns-in-None : goal.add_named-returns-in-None
add_named-returns-in-None t c =
    let entries : c.into_iter-name-iterator.result ≡ c.in-Object.entries.entries = cc in
    let last = rw (entries, c.in-None.ensures.steps.0) at c.loop-name.invariant in
    let whole = is_object c.args.dependencies.now c.in-Object.entries c.in-Object.is in
    rw whole (sym (append-nil _) ∙ last)

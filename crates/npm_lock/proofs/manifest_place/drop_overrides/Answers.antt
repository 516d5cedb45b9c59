-- The lock file is an object, and its root was changed.
use Rattle.std.proofs.Common.{◌≡◌, ◌∙◌, ap, option_map, refl, sym, true}
use Rattle.serde_json.proofs.Views.{view-Object}
use Rattle.serde_json.specs.Data.{object}
use Rattle.serde_json.specs.View.{members_view, view}
use Rattle.npm_texts.specs.Lemmas.Objects.{is_object_of}
use Rattle.npm_lock.specs.ManifestPlace.{has_overrides}
use Rattle.npm_lock.proofs.ManifestWrites.{on_ok}
use Rattle.npm_lock.proofs.manifest_place.drop_overrides.Goals as goal

pub returns-in-Some : goal.returns-in-Some
returns-in-Some c =
    let lock : view c.args.lock.now ≡ object (members_view c.in-Some.members.now.entries) =
    is_object_of _ _ (sym c.as_object_mut.ensures.value ∙ ap (option_map (λ m. members_view m.now.entries))
    c.in-Some.is) in
    let has : has_overrides (view c.args.lock.now) ≡ true = sym c.has_overrides.ensures ∙ c.if-not-has_overrides.false in
    on_ok c.put_inside.result c.put_inside.ensures (λ is. rw
    (view-Object c.put_inside.new.members, is, c.in_ok-made.ensures, has, lock) refl)

-- The map has the changed value under its name, or is what it was.
use Rattle.std.proofs.Common.{◌∙◌, ap, sym}
use Rattle.std.specs.Option.{option_copied_mut}
use Rattle.serde_json.specs.View.{view}
use Rattle.npm_lock.specs.ManifestPlace.{with_member}
use Rattle.npm_lock.proofs.ManifestWrites.{changed, on_ok, unchanged}
use Rattle.npm_lock.proofs.manifest_place.put_inside.Goals as goal

pub returns-in-Some : goal.returns-in-Some
returns-in-Some c =
    let found = sym c.get_mut.ensures.value ∙ ap option_copied_mut c.in-Some.is in
    let written = c.get_mut.follows.holds c.put_member.new.value in
    on_ok c.put_member.result c.put_member.ensures (λ to. rw written.0 (changed c.args.name.now
    (with_member c.args.inner.now (view c.args.member)) c.args.members.now.entries _ c.put_member.new.value found to))

pub returns-in-None : goal.returns-in-None
returns-in-None c =
    let found = sym c.get_mut.ensures.value ∙ ap option_copied_mut c.in-None.is in
    rw c.get_mut.follows.holds-at-none (unchanged c.args.name.now (with_member c.args.inner.now (view c.args.member))
    c.args.members.now.entries found)

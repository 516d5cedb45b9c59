-- The key of a member is added, or passed.
use Rattle.std.proofs.Common.{◌∙◌, ap, map}
use Rattle.std.proofs.lemmas.List.{map-append}
use Rattle.serde_json.specs.View.{members_view, view}
use Rattle.npm_pick.specs.Private.Keeping.{key_value}
use Rattle.npm_pick.proofs.Added.{more_added, more_passed}
use Rattle.npm_pick.proofs.admitted.Admitting.with_members.Goals as goal

pub loop-key-preserved-in-Continue-1 : goal.loop-key-preserved-in-Continue-1
loop-key-preserved-in-Continue-1 c =
    let so = rw c.in-Some.ensures.steps at c.loop-key.invariant in
    let found = rw c.in-Some-admitted.is at c.admitted.ensures.found in
    let within = rw c.in-Some-admitted.is at c.admitted.ensures.within in
    more_added (view c.args.self.now.packument.now) c.args.self.now.options.now c.args.self.now.ranges.items
    (members_view c.into_iter-key-iterator.result) (members_view c.next.new.self) (map key_value c.args.keys.items)
    (map key_value c.loop-key.keys.items) (map key_value c.push.new.self.items)
    (record { key = c.as_str-text.result.now; manifest = view c.in-Some.field-0-1.now }) c.in-Some-admitted.version
    (rw c.as_str-text.ensures.value so) found within
    (ap (map key_value) c.in_ok-push.ensures.items ∙ map-append key_value c.loop-key.keys.items _)

pub loop-key-preserved : goal.loop-key-preserved
loop-key-preserved c =
    let so = rw c.in-Some.ensures.steps at c.loop-key.invariant in
    let without = rw c.in_default.is at c.admitted.ensures.none in
    more_passed (view c.args.self.now.packument.now) c.args.self.now.options.now c.args.self.now.ranges.items
    (members_view c.into_iter-key-iterator.result) (members_view c.next.new.self) (map key_value c.args.keys.items)
    (map key_value c.loop-key.keys.items)
    (record { key = c.as_str-text.result.now; manifest = view c.in-Some.field-0-1.now })
    (rw c.as_str-text.ensures.value so) without

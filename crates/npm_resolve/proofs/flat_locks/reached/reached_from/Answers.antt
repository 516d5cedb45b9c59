-- The first names are those of the root, one name more leads on, and none waits at the end.
use Rattle.std.proofs.Common.{◌≡◌, ◌∙◌, [], ap, map, refl, string_bytes}
use Rattle.serde_json.specs.View.{view}
use Rattle.npm_resolve.specs.Installed.{installed_value}
use Rattle.npm_resolve.proofs.Reaching.{all_reached, begins, held_more, nothing_left}
use Rattle.npm_resolve.proofs.flat_locks.reached.reached_from.Goals as goal

pub loop-init : goal.loop-init
loop-init c = begins (view c.args.root.now) (map installed_value c.args.installed.now) c.args.groups _ _
    (ap (map string_bytes) c.new-reached.ensures.waiting) c.new-reached.ensures.seen c.in_ok-add_dependencies.ensures

pub loop-preserved : goal.loop-preserved
loop-preserved c = held_more (view c.args.root.now) (map installed_value c.args.installed.now) c.args.groups
    c.loop.reached _ _ (string_bytes c.in-Some.name) (ap (map string_bytes) (rw c.in-Some.is at c.pop_front.ensures.items)) refl
    c.loop.invariant (rw c.as_str.ensures.value at c.in_ok-add_named.ensures)

pub returns-in_default : goal.returns-in_default
returns-in_default c =
    let empty : c.loop.reached.waiting.items ≡ [] =
    nothing_left c.loop.reached.waiting.items ((rw c.in_default.is at c.pop_front.ensures.items) ∙ c.pop_front.ensures.rest) in
    all_reached (view c.args.root.now) (map installed_value c.args.installed.now) c.args.groups c.loop.reached
    (ap (map string_bytes) empty) c.loop.invariant

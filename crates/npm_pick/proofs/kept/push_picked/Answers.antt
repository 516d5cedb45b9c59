-- A key is picked, or none.
use Rattle.std.proofs.Common.{◌∙◌, ap, map, refl}
use Rattle.std.proofs.lemmas.List.{map-append}
use Rattle.npm_pick.specs.Pick.{picked_value}
use Rattle.npm_pick.specs.Private.Keeping.{added, kept, key_value}
use Rattle.std.proofs.Common.{inl, inr}
use Rattle.npm_pick.proofs.kept.push_picked.Goals as goal

pub returns-in_ok-push-in-Ok : goal.returns-in_ok-push-in-Ok
returns-in_ok-push-in-Ok c =
    let held = rw c.in-Ok.is at c.pick.ensures in
    elim held [
      | inl never ↦ cc never
      | inr so ↦ added (picked_value c.in-Ok.picked) (key_value c.of.result) so c.of.ensures.text c.of.ensures.read
          (ap (map key_value) c.in_ok-push-in-Ok.ensures.items ∙ map-append key_value c.args.keys.now.items _)
    ]

pub returns-in_ok-unless_memory-in-Err : goal.returns-in_ok-unless_memory-in-Err
returns-in_ok-unless_memory-in-Err c =
    let held = rw c.in-Err.is at c.pick.ensures in
    elim held [
      | inl memory ↦ absurd (c.in_ok-unless_memory-in-Err.ensures (cc memory))
      | inr so ↦ kept c.in-Err.error so refl
    ]

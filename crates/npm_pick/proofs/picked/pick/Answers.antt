use Rattle.std.proofs.Common.{◌≡◌, ◌∙◌, Err, Ok, false, inl, inr, refl, sym, true, rules}
use Rattle.serde_json.specs.View.{view}
use Rattle.npm_pick.specs.Packument.{is_restricted}
use Rattle.npm_pick.specs.Pick.{picked_value}
use Rattle.npm_pick.proofs.picked.pick.Goals as goal

pub returns-in_err-picked : goal.returns-in_err-picked
returns-in_err-picked c =
    let held = rw (c.in_err-picked.was, c.filled.ensures) at c.pick_chosen.ensures in
    let result : c.from_residual.result ≡ Err c.in_err-picked.field-0.0 = search rules in
    rw result (elim held [ inl memory ↦ inl memory | inr so ↦ inr (record { chosen = _; so = so; permitted = refl }) ])

pub returns-then-is_restricted : goal.returns-then-is_restricted
returns-then-is_restricted c =
    let held = rw (c.in_ok-picked.was, c.filled.ensures) at c.pick_chosen.ensures in
    let yes : is_restricted (view c.args.packument.now) c.in_ok-picked.picked.key.now ≡ true =
    sym c.is_restricted.ensures ∙ c.if-is_restricted.true in
    elim held [
      | inl never ↦ cc never
      | inr so ↦ inr (record { chosen = Ok (picked_value c.in_ok-picked.picked); so = so; permitted = rw yes refl })
    ]

pub returns-else-is_restricted : goal.returns-else-is_restricted
returns-else-is_restricted c =
    let held = rw (c.in_ok-picked.was, c.filled.ensures) at c.pick_chosen.ensures in
    let no : is_restricted (view c.args.packument.now) c.in_ok-picked.picked.key.now ≡ false =
    sym c.is_restricted.ensures ∙ c.if-is_restricted.false in
    elim held [
      | inl never ↦ cc never
      | inr so ↦ inr (record { chosen = Ok (picked_value c.in_ok-picked.picked); so = so; permitted = rw no refl })
    ]

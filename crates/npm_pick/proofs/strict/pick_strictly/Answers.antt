use Rattle.std.proofs.Common.{inl, inr, refl, ◌≡◌, Err, rules}
use Rattle.npm_pick.specs.Pick.{answer_value, as_wanted, beside, picked_value}
use Rattle.npm_pick.proofs.strict.pick_strictly.Goals as goal

pub returns-in_err-first : goal.returns-in_err-first
returns-in_err-first c =
    let held = rw c.in_err-first.was at c.pick_for.ensures in
    let result : c.from_residual.result ≡ Err c.in_err-first.field-0.0 = search rules in
    rw result (elim held [ inl memory ↦ inl memory | inr so ↦ inr (as_wanted _ so) ])

pub returns-then-first : goal.returns-then-first
returns-then-first c =
    let held = rw c.in_ok-first.was at c.pick_for.ensures in
    elim c.pick_beside.ensures [
      | inl memory ↦ inl memory
      | inr so ↦ elim held [
        | inl never ↦ cc never
        | inr first ↦ inr (beside c.in_ok-first.first.key.now (answer_value c.pick_beside.result)
            (picked_value c.in_ok-first.first, first, c.if-first.true, refl) so)
      ]
    ]

pub returns-else-first : goal.returns-else-first
returns-else-first c =
    let held = rw c.in_ok-first.was at c.pick_for.ensures in
    elim held [ inl never ↦ cc never | inr first ↦ inr (as_wanted _ (first, c.if-first.false)) ]

use Rattle.std.proofs.Common.{Ok, codes, inl, inr, refl, ◌≡◌, Err, rules}
use Rattle.serde_json.specs.View.{view}
use Rattle.npm_pick.specs.Pick.{PicksOther, avoided, other, picked_value}
use Rattle.npm_pick.proofs.strict.pick_of_all.Goals as goal

pub returns-in_err-third : goal.returns-in_err-third
returns-in_err-third c =
    let held = rw c.in_err-third.was at c.pick_for.ensures in
    let result : c.from_residual.result ≡ Err c.in_err-third.field-0.0 = search rules in
    rw result (elim held [ inl memory ↦ inl memory | inr so ↦ inr (other (Err c.in_err-third.field-0.0) so) ])

pub returns-then-third : goal.returns-then-third
returns-then-third c =
    let held = rw c.in_ok-third.was at c.pick_for.ensures in
    elim held [
      | inl never ↦ cc never
      | inr third ↦ inr (avoided c.in_ok-third.third.key.now
          (picked_value c.in_ok-third.third, third, c.if-third.true, refl))
    ]

pub returns-else-third : goal.returns-else-third
returns-else-third c =
    let held = rw c.in_ok-third.was at c.pick_for.ensures in
    elim held [
      | inl never ↦ cc never
      | inr third ↦
          let none_avoided : PicksOther (view c.args.packument.now) c.args.options.now (codes "*")
          (Ok (picked_value c.in_ok-third.third)) = (third, c.if-third.false) in
          rw c.outside.ensures (inr (other (Ok (picked_value c.in_ok-third.third)) none_avoided))
    ]

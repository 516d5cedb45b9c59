use Rattle.std.proofs.Common.{◌≡◌, ◌∙◌, Ok, inl, inr, refl, Err, rules}
use Rattle.serde_json.specs.View.{view}
use Rattle.npm_pick.specs.Pick.{PicksOther, answer_value, caret_of, compatible, of_all, picked_value}
use Rattle.npm_pick.proofs.strict.pick_beside.Goals as goal

pub returns-in_err-second : goal.returns-in_err-second
returns-in_err-second c =
    let text : c.as_str.result.now ≡ caret_of c.args.key.now = c.as_str.ensures.value ∙ c.in_ok-compatible.ensures in
    let held = rw (c.in_err-second.was, text) at c.pick_for.ensures in
    let result : c.from_residual-in_err-second.result ≡ Err c.in_err-second.field-0.0 = search rules in
    rw result (elim held [ inl memory ↦ inl memory | inr so ↦ inr (compatible (Err c.in_err-second.field-0.0) so) ])

pub returns-then-second : goal.returns-then-second
returns-then-second c =
    let text : c.as_str.result.now ≡ caret_of c.args.key.now = c.as_str.ensures.value ∙ c.in_ok-compatible.ensures in
    let held = rw (c.in_ok-second.was, text) at c.pick_for.ensures in
    elim c.pick_of_all.ensures [
      | inl memory ↦ inl memory
      | inr so ↦ elim held [
        | inl never ↦ cc never
        | inr second ↦ inr (of_all c.in_ok-second.second.key.now (answer_value c.pick_of_all.result)
            (picked_value c.in_ok-second.second, second, c.if-second.true, refl) so)
      ]
    ]

pub returns : goal.returns
returns c =
    let text : c.as_str.result.now ≡ caret_of c.args.key.now = c.as_str.ensures.value ∙ c.in_ok-compatible.ensures in
    let held = rw (c.in_ok-second.was, text) at c.pick_for.ensures in
    elim held [
      | inl never ↦ cc never
      | inr second ↦
          let other : PicksOther (view c.args.packument.now) c.args.options.now (caret_of c.args.key.now)
          (Ok (picked_value c.in_ok-second.second)) = (second, c.if-second.false) in
          rw c.outside.ensures (inr (compatible (Ok (picked_value c.in_ok-second.second)) other))
    ]

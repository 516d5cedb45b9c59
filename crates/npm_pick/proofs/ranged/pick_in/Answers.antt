-- The default tag's version, or the one picked by rank.
use Rattle.std.proofs.Common.{inl, inr}
use Rattle.serde_json.specs.View.{view}
use Rattle.npm_pick.specs.Pick.{answer_value, by_default}
use Rattle.npm_pick.proofs.Late.{ranked_in}
use Rattle.npm_pick.proofs.ranged.pick_in.Goals as goal

pub returns-in-Some : goal.returns-in-Some
returns-in-Some c =
    let found = rw c.in-Some.is at c.in_ok-picked.ensures in
    rw (found.1, found.2, found.3) (inr (by_default c.in-Some.picked.key.now (view c.in-Some.picked.manifest.now) found.0))

pub returns : goal.returns
returns c =
    let default = rw c.in-None.is at c.in_ok-picked.ensures in
    elim c.pick_ranked.ensures [
      | inl memory ↦ inl memory
      | inr ranked ↦ inr (ranked_in (view c.args.packument.now) c.args.options.now c.args.text.now
          (answer_value c.pick_ranked.result) default ranked)
    ]

use Rattle.std.proofs.Common.{◌≡◌, ◌∙◌, ◌↔◌, IsTrue, Some, ap, inr, option_map, sym}
use Rattle.serde_json.specs.View.{view}
use Rattle.npm_pick.specs.Pick.{IsKeyAvoided, absent, late, there}
use Rattle.npm_pick.specs.Packument.{candidate_of}
use Rattle.npm_pick.proofs.ranged.pick_at.Goals as goal

pub returns-then-not-is_published : goal.returns-then-not-is_published
returns-then-not-is_published c = inr (late (sym c.is_published.ensures ∙ c.if-not-is_published.true))

pub returns-in_default : goal.returns-in_default
returns-in_default c =
    inr (absent (sym c.candidate_of.ensures.manifest
    ∙ ap (option_map (λ release. view release.1.now)) c.in_default.is))

pub returns : goal.returns
returns c =
    let same : c.in-Some.key.now ≡ c.args.key.now = c.in-Some.ensures.key in
    let manifest : candidate_of c.args.options.now.include_staged (view c.args.packument.now) c.args.key.now
    ≡ Some (view c.in-Some.manifest.now) =
    sym c.candidate_of.ensures.manifest ∙ ap (option_map (λ release. view release.1.now)) c.in-Some.is in
    let of_key : IsTrue c.is_key_avoided.result ↔ IsKeyAvoided c.args.options.now c.in-Some.key.now = (
      (λ yes.
          let h = c.is_key_avoided.ensures.0 yes in (h.0, h.1, (c.in_ok-avoid.ensures h.0).0 h.2)),
      (λ h. c.is_key_avoided.ensures.1 (h.0, h.1, (c.in_ok-avoid.ensures h.0).1 h.2)),
    ) in
    rw same (inr (there (view c.in-Some.manifest.now) c.is_key_avoided.result
    (sym c.is_published.ensures ∙ c.if-not-is_published.false) manifest (rw same at of_key)))

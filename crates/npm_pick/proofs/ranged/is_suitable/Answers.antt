use Rattle.std.proofs.Common.{◌∙◌, sym}
use Rattle.std.proofs.lemmas.Result.{IfOk-weaker}
use Rattle.npm_pick.specs.Pick.{IsKeyAvoided}
use Rattle.npm_pick.proofs.ranged.is_suitable.Goals as goal

pub returns : goal.returns
returns c =
    let kept : ¬ IsKeyAvoided c.args.asked.now.options.now c.args.key.now =
    λ h. cc (c.is_key_avoided.ensures.1 (h.0, h.1, (c.requires.avoid h.0).1 h.2), c.if-is_key_avoided.false) in
    IfOk-weaker c.fits.result _ _ (λ suitable fits. (
      (λ yes. record {
        admitted = c.is_in_range.ensures.0 c.if-not-is_in_range.false;
        published = sym c.is_published.ensures ∙ c.if-not-is_published.false;
        kept = kept;
        allowed = rw c.requires.restricted at (sym c.is_listed.ensures ∙ c.if-is_listed.false);
        whole = rw c.requires.staged at (sym c.is_listed-2.ensures ∙ c.if-is_listed-2.false);
        lasting = sym c.has_true.ensures ∙ c.if-has_true.false;
        fitting = fits.0 yes;
      }),
      (λ h. fits.1 h.fitting),
    )) c.fits.ensures

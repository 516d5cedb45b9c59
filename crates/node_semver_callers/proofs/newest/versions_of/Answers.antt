-- Each text is one version more, or none.
use Rattle.std.proofs.Common.{ap, refl, ◌∙◌}
use Rattle.node_semver_callers.proofs.NewestOfTexts.{next-text, next-version}
use Rattle.node_semver_callers.proofs.newest.versions_of.Goals as goal
use Rattle.node_semver_callers.proofs.newest.versions_of.Goals.{in-Ok+in_ok-push-in-Ok, in-Err}

pub loop-text-preserved : goal.loop-text-preserved
loop-text-preserved c = elim c.match-parse.branch [
  | in-Ok+in_ok-push-in-Ok w ↦
      next-version (λ t. t.now) c.args.texts.now c.loop-text.text-index _ _ _ c.loop-text-test.true refl
      c.loop-text.invariant w.in-Ok.version _ (rw w.in-Ok.is at c.parse.ensures.found)
      (λ v written. rw w.in-Ok.is at (c.parse.ensures.only v written))
      (ap (λ l. l.items) w.versions-is ∙ w.in_ok-push-in-Ok.ensures.items)
  | in-Err w ↦
      next-text (λ t. t.now) c.args.texts.now c.loop-text.text-index _ _ _ c.loop-text-test.true refl
      c.loop-text.invariant _ (λ v written. rw w.in-Err.is at (c.parse.ensures.only v written))
      (ap (λ l. l.items) w.versions-is)
]

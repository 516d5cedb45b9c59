-- One installed version more, which the document has or lacks.
use Rattle.std.proofs.Common.{◌∙◌, ℕ, Bool, List, ap, map, not, string_bytes, sym}
use Rattle.serde_json.specs.View.{view}
use Rattle.npm_pick.specs.Lemmas.Gathering.{pushed}
use Rattle.npm_pick_reports.specs.Mirror.{has_version}
use Rattle.npm_pick_reports.proofs.Mirrors.{failed_more, passed_more}
use Rattle.npm_pick_reports.proofs.mirror.lacking_of.Goals as goal
use Rattle.npm_pick_reports.proofs.mirror.lacking_of.Goals.{else-not-has_version, then-not-has_version+in_ok-from_str+in_ok-push}

pub loop-version-preserved : goal.loop-version-preserved
loop-version-preserved c =
    let test : List ℕ → Bool = λ key. not (has_version (view c.args.packument.now) key) in
    let has = sym (rw c.as_str.ensures.value at c.has_version.ensures) in
    let old = map string_bytes c.loop-version.lacking.items in
    elim c.if-not-has_version.branch [
      | then-not-has_version+in_ok-from_str+in_ok-push w ↦ rw w.lacking-is (passed_more test c.args.versions.now c.loop-version.version-index
          c.version-item.result old c.loop-version-test.true c.version-item.is c.loop-version.invariant _
          (ap not (has ∙ w.if-not-has_version.true))
          (pushed _ _ _ _ w.in_ok-push.ensures.items (w.in_ok-from_str.ensures.ok ∙ w.as_str-then-not-has_version.ensures.value)))
      | else-not-has_version w ↦ rw w.lacking-is (failed_more test c.args.versions.now c.loop-version.version-index
          c.version-item.result old c.loop-version-test.true c.version-item.is c.loop-version.invariant
          (ap not (has ∙ w.if-not-has_version.false)))
    ]

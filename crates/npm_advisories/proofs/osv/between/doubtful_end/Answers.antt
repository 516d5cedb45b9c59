-- The end is doubtful, or it is not.
use Rattle.std.proofs.Common.{◌≡◌, ◌∙◌, rules, subst, sym}
use Rattle.std.specs.List.{Contains}
use Rattle.semver_cuts.specs.Ends.{IsCutAtMost}
use Rattle.node_semver.specs.Cuts.{After, Before}
use Rattle.node_semver.specs.Versions.{version_cmp}
use Rattle.npm_advisories.specs.OsvRanges.{IsReachedBefore}
use Rattle.npm_advisories.specs.Private.OsvReading.{IsNextEnd}
use Rattle.npm_advisories.proofs.OsvEnds.{doubtful, ends-here}
use Rattle.npm_advisories.proofs.osv.between.doubtful_end.Goals as goal
use Rattle.npm_advisories.proofs.osv.between.doubtful_end.Goals.{in_default-via-in-Before+then-is_up_to+else-is_reached}
use Rattle.npm_advisories.proofs.osv.between.doubtful_end.Goals.{in_default-via-in-Before+else-is_up_to, in_default-via-in_default}

pub returns-in_ok-clone-in-Before : goal.returns-in_ok-clone-in-Before
returns-in_ok-clone-in-Before c =
    let v = c.in-Before.version in
    let starts = c.args.marks.now.starts.items in
    let ends = c.args.marks.now.ends.items in (
      v,
      c.in-Before.is,
      search rules,
      doubtful (Contains starts) (Contains ends) v c.args.end.now
          (subst (Contains starts) c.in-Before.is c.requires.start)
          (subst (λ c'. IsNextEnd (Contains ends) c' c.args.end.now) c.in-Before.is c.requires.end)
          (c.is_up_to.ensures.0 c.if-is_up_to.true)
          (subst (IsReachedBefore (Contains starts) (Contains ends)) c.in-Before.is
          (c.is_reached.ensures.0 c.if-is_reached.true)),
    )

pub returns-in_default : goal.returns-in_default
returns-in_default c = λ v is doubt.
    let starts = c.args.marks.now.starts.items in
    let ends = c.args.marks.now.ends.items in
    elim c.in_default.branch [
      | in_default-via-in-Before+then-is_up_to+else-is_reached w ↦
          let reached : IsReachedBefore (Contains starts) (Contains ends) c.args.start.now =
          subst (IsReachedBefore (Contains starts) (Contains ends)) (sym is) doubt.reached in
          cc (w.if-is_reached.false, w.is_reached.ensures.1 reached)
      | in_default-via-in-Before+else-is_up_to w ↦
          let at : Before w.in-Before.version ≡ Before v = sym w.in-Before.is ∙ is in
          let same : w.in-Before.version ≡ v = cc at in
          let here = ends-here (Contains starts) (Contains ends) v c.args.end.now
          (subst (λ c'. IsNextEnd (Contains ends) c' c.args.end.now) is c.requires.end) doubt in
          cc (
            w.if-is_up_to.false,
            w.is_up_to.ensures.1 (subst (λ u. IsCutAtMost version_cmp c.args.end.now (After u)) (sym same) here),
          )
      | in_default-via-in_default w ↦ w.in_default.not-Before v is
    ]

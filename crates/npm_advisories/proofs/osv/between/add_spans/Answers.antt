-- The span from the start, and the one behind the version where its end is doubtful.
use Rattle.std.proofs.Common.{◌∙◌, ◌++◌, ap, append_assoc, subst, sym}
use Rattle.std.specs.List.{Contains}
use Rattle.semver_cuts.specs.Ends.{IsCutAtMost, IsCutBelow}
use Rattle.node_semver.specs.Cuts.{Before}
use Rattle.node_semver.specs.Ranges.{IsRangeCut}
use Rattle.node_semver.specs.Versions.{version_cmp}
use Rattle.npm_advisories.specs.Lemmas.Spans.{Have}
use Rattle.npm_advisories.specs.Private.OsvReading.{IsNextEnd}
use Rattle.npm_advisories.proofs.OsvBetween.{have-once, have-twice, limit-cut, next-cut, on-ok}
use Rattle.npm_advisories.proofs.osv.between.add_spans.Goals as goal

pub add_span-requires-in-Some : goal.add_span-requires-in-Some
add_span-requires-in-Some c =
    let marks = c.args.marks.now in
    let told = rw c.in-Some.is at c.in_ok-again.ensures in
    let end = c.next_end-end-in-Some.result.now in (
      subst IsRangeCut (sym told.2) (c.requires.cuts.starts (Before told.0) told.3.introduced),
      next-cut marks c.in-Some.again end c.requires.cuts
          (subst (λ l. IsNextEnd (Contains l) c.in-Some.again end) c.deref-in-Some.ensures.value
          c.next_end-end-in-Some.ensures),
      limit-cut marks c.args.limit.now c.requires.cuts c.requires.limit,
    )

pub returns-in-Some : goal.returns-in-Some
returns-in-Some c =
    let marks = c.args.marks.now in
    let told = rw c.in-Some.is at c.in_ok-again.ensures in
    let start = c.args.start.now in
    let limit = c.args.limit.now in
    let end = c.next_end-end.result.now in
    let later = c.next_end-end-in-Some.result.now in
    let first = c.in_ok-add_span.ensures in
    on-ok c.add_span-in-Some.result (λ second. (
      first.0 ++ second.0,
      second.1 ∙ ap (λ l. l ++ second.0) first.1 ∙ append_assoc c.args.spans.now.items first.0 second.0,
      have-twice marks limit c.requires.limit start end
          (subst (λ l. IsNextEnd (Contains l) start end) c.deref.ensures.value c.next_end-end.ensures) first.0 first.2
          told.0 told.1 told.3 later
          (subst (λ x. IsNextEnd (Contains marks.ends.items) x later) told.2
          (subst (λ l. IsNextEnd (Contains l) c.in-Some.again later) c.deref-in-Some.ensures.value
          c.next_end-end-in-Some.ensures)) second.0
          (subst (λ x. Have second.0 (λ v. IsCutAtMost version_cmp x (Before v) × IsCutBelow version_cmp (Before v) later
          × IsCutBelow version_cmp (Before v) limit)) told.2 second.2),
    )) c.add_span-in-Some.ensures

pub returns : goal.returns
returns c =
    let marks = c.args.marks.now in
    let told = rw c.in-None.is at c.in_ok-again.ensures in
    let start = c.args.start.now in
    let end = c.next_end-end.result.now in
    let first = c.in_ok-add_span.ensures in (
      first.0,
      first.1,
      have-once marks c.args.limit.now c.requires.limit start end
          (subst (λ l. IsNextEnd (Contains l) start end) c.deref.ensures.value c.next_end-end.ensures) first.0 first.2
          told,
    )

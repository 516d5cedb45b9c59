-- The first span that does not end at the cut or below it contains the cut, or none does.
use Rattle.std.proofs.Common.{◌≡◌, ◌∙◌, of_calls, rules, subst, sym}
use Rattle.std.proofs.lemmas.Fn.{always_returns_same}
use Rattle.std.proofs.lemmas.List.{get_or_default}
use Rattle.std.specs.Ordering.{is_le}
use Rattle.semver_cuts.specs.Cut.{cut_cmp}
use Rattle.semver_cuts.specs.Ends.{Ends, IsCutAtMost, IsCutBelow}
use Rattle.semver_cuts.specs.Lemmas.Ends.{at_most-from_le, below-from_not_le}
use Rattle.semver_texts.specs.Lemmas.Public.{version_total}
use Rattle.node_semver.specs.Versions.{VersionValue, version_cmp}
use Rattle.npm_advisories.proofs.SpanPlaces.{around, none-between, none-past, parted}
use Rattle.npm_advisories.proofs.covered.span_around.Goals as goal
use Rattle.npm_advisories.proofs.covered.span_around.Goals.{else-place-spans-via-else-place-spans}
use Rattle.npm_advisories.proofs.covered.span_around.Goals.{else-place-spans-via-then-place-spans+else-le}

pub returns-then-le : goal.returns-then-le
returns-then-le c =
    let spans = c.args.spans.now in
    let cut = c.args.cut.now in
    let place = c.partition_point-place.result in
    let parts = c.partition_point-place.ensures.partitioned
    (λ (s : Ends VersionValue). is_le (cut_cmp version_cmp s.upper cut))
    (always_returns_same _ _ _ (λ a r f k. search (rules, of_calls))) (parted spans c.requires cut) in
    let first = c.index-spans-place.result in
    let span = c.index-spans-place-then-le.result in
    let same : first ≡ span = c.index-spans-place.is ∙ get_or_default spans place first span c.if-place-spans.true
    ∙ sym c.index-spans-place-then-le.is in
    around spans c.requires cut place parts span c.if-place-spans.true c.index-spans-place-then-le.is
    (subst (λ (s : Ends VersionValue). IsCutAtMost version_cmp s.lower cut) same
    (subst (λ x. IsCutAtMost version_cmp x cut) c.lower.ensures
    (at_most-from_le version_cmp c.lower.result.now cut (sym c.le.ensures ∙ c.if-le.true))))

pub returns-else-place-spans : goal.returns-else-place-spans
returns-else-place-spans c =
    let spans = c.args.spans.now in
    let cut = c.args.cut.now in
    let place = c.partition_point-place.result in
    let parts = c.partition_point-place.ensures.partitioned
    (λ (s : Ends VersionValue). is_le (cut_cmp version_cmp s.upper cut))
    (always_returns_same _ _ _ (λ a r f k. search (rules, of_calls))) (parted spans c.requires cut) in
    elim c.else-place-spans.branch [
      | else-place-spans-via-then-place-spans+else-le w ↦
          none-between spans c.requires cut place parts w.index-spans-place.result w.if-place-spans.true
          w.index-spans-place.is (subst (IsCutBelow version_cmp cut) w.lower.ensures
          (below-from_not_le version_total w.lower.result.now cut (sym w.le.ensures ∙ w.if-le.false)))
      | else-place-spans-via-else-place-spans w ↦
          none-past spans c.requires cut place parts w.if-place-spans.false
    ]

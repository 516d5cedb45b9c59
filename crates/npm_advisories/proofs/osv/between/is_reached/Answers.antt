-- The greatest start before the cut tells.
use Rattle.std.proofs.Common.{◌≡◌, ◌∙◌, ◌-◌, ◌<◌, ◌≤◌, Bool, List, arith, false, get_or, length, of_calls, rules, subst, sym, true}
use Rattle.std.proofs.lemmas.Fn.{always_returns_same}
use Rattle.std.specs.List.{Contains}
use Rattle.std.specs.List.Sorted.{IsPartitionPoint, IsPartitionedBy}
use Rattle.std.specs.Ordering.{is_lt}
use Rattle.semver_cuts.specs.Cut.{cut_cmp}
use Rattle.semver_cuts.specs.Lemmas.Ends.{below-from_lt, lt-from_below}
use Rattle.node_semver.specs.Cuts.{Cut}
use Rattle.node_semver.specs.Versions.{VersionValue, version_cmp}
use Rattle.npm_advisories.specs.Private.OsvReading.{IsNextEnd}
use Rattle.npm_advisories.proofs.OsvEnds.{at_place, none-reached, parted-below, reached-by, reached-last}
use Rattle.npm_advisories.proofs.osv.between.is_reached.Goals as goal

pub returns-then-place-eq0 : goal.returns-then-place-eq0
returns-then-place-eq0 c =
    let starts : List (Cut VersionValue) = c.args.marks.now.starts.items in
    let cut = c.args.cut.now in
    let place = c.partition_point-place.result in
    let same : c.deref-starts.result.now ≡ starts = c.deref-starts.ensures.value in
    let before : Cut VersionValue → Bool = λ s. is_lt (cut_cmp version_cmp s cut) in
    let parts : IsPartitionPoint (λ s. before s ≡ true) (λ s. before s ≡ false) starts place =
    subst (λ l. IsPartitionPoint (λ s. before s ≡ true) (λ s. before s ≡ false) l place) same
    (c.partition_point-place.ensures.partitioned before
    (always_returns_same _ _ _ (λ a r f k. search (rules, of_calls)))
    (subst (IsPartitionedBy before) (sym same) (parted-below starts c.requires.sorted.starts cut))) in
    let most : place ≤ length starts = subst (λ l. place ≤ length l) same c.partition_point-place.ensures.bound in
    let E : Cut VersionValue → Type 0 = Contains c.args.marks.now.ends.items in (
      λ no. absurd (cc no),
      λ reached. absurd (none-reached starts c.requires.sorted.starts E cut place parts most c.if-place-eq0.true reached),
    )

pub returns : goal.returns
returns c =
    let starts : List (Cut VersionValue) = c.args.marks.now.starts.items in
    let cut = c.args.cut.now in
    let place = c.partition_point-place.result in
    let same : c.deref-starts.result.now ≡ starts = c.deref-starts.ensures.value in
    let before : Cut VersionValue → Bool = λ s. is_lt (cut_cmp version_cmp s cut) in
    let parts : IsPartitionPoint (λ s. before s ≡ true) (λ s. before s ≡ false) starts place =
    subst (λ l. IsPartitionPoint (λ s. before s ≡ true) (λ s. before s ≡ false) l place) same
    (c.partition_point-place.ensures.partitioned before
    (always_returns_same _ _ _ (λ a r f k. search (rules, of_calls)))
    (subst (IsPartitionedBy before) (sym same) (parted-below starts c.requires.sorted.starts cut))) in
    let most : place ≤ length starts = subst (λ l. place ≤ length l) same c.partition_point-place.ensures.bound in
    let E : Cut VersionValue → Type 0 = Contains c.args.marks.now.ends.items in
    let start = c.index-starts-place.result in
    let end = c.next_end.result.now in
    let some : 0 < place = omega arith in
    let is : start ≡ get_or starts (place - 1) start =
    subst (λ l. start ≡ get_or l (place - 1) start) same c.index-starts-place.is in
    let next : IsNextEnd E start end =
    subst (λ l. IsNextEnd (Contains l) start end) c.deref.ensures.value c.next_end.ensures in
    let at = at_place starts c.requires.sorted.starts E cut place parts most start some is in (
      λ yes. reached-by (Contains starts) E cut start end at.0 at.1 next
          (below-from_lt version_cmp cut end (sym c.lt.ensures ∙ yes)),
      λ reached. c.lt.ensures ∙ lt-from_below version_cmp cut end
          (reached-last starts c.requires.sorted.starts E cut place parts most start end some is next c.requires.cut
          reached),
    )

-- The intervals of joined spans ascend and do not touch, and there are at most as many as spans.
use Rattle.std.proofs.Common.{◌≡◌, ◌≤◌, ◌*◌, ◌++◌, Bool, true, false, suc, List, [], ◌∷◌, map, not, refl, sym, ap, ◌∙◌}
use Rattle.std.proofs.Common.{subst, inl, inr, arith, length, filter, length-append}
use Rattle.std.proofs.lemmas.List.{length-map}
use Rattle.std.specs.List.{AllByRecursion, flat_map}
use Rattle.semver_cuts.specs.Ends.{Ends, IsCutBelow}
use Rattle.semver_cuts.specs.Joined.{AreJoined, AreRising}
use Rattle.semver_cuts.specs.SpanLists.{AreApart}
use Rattle.semver_cuts.specs.Starts.{count_of_starts, count_of_starts_from}
use Rattle.semver_cuts.specs.Lemmas.Lists.{all-append, all_map}
use Rattle.semver_cuts.specs.Lemmas.TwoSpans.{common_ends-hold, common_of-cases, holds-below}
use Rattle.semver_cuts.specs.declared.cut.Cut.{Cut}
use Rattle.semver_cuts.specs.declared.cut.Cut.TheVariants.{Start, Before, After, End}
use Rattle.semver_texts.specs.Comparison.{version_cmp}
use Rattle.semver_texts.specs.IdentifierValue.{IdentifierValue}
use Rattle.semver_texts.specs.Lemmas.Public.{version_total}
use Rattle.semver_texts.specs.Version.{VersionValue}
use Rattle.semver_sets.specs.RangeSets.{IsRangeSet, IsRangeValue}
use Rattle.semver_keys.specs.Intervals.{AreFew, AreInOrder, IntervalValue}
use Rattle.semver_keys.specs.Lemmas.CutOrder.{cut-order}
use Rattle.semver_keys.specs.Private.Opened.{parts_at, parts_for, parts_of, prereleases_of}
use Rattle.semver_keys.proofs.SpanKeys.{AreGathered}
use Rattle.semver_keys.specs.Private.SpanIntervals.{HasSpanWords, interval_of}

-- ---- in order

module _ (p : Bool) where
  one-rises : (span : Ends VersionValue) → HasSpanWords span → IsCutBelow version_cmp span.lower span.upper
      → AreInOrder (interval_of p span ∷ [])
  one-rises span h below = cut-order span.lower span.upper h.lower h.upper ∙ below

  -- those of one kind
  pub in-order : (spans : List (Ends VersionValue)) → AllByRecursion HasSpanWords spans → AreRising version_cmp spans
      → AreApart version_cmp spans → AreInOrder (map (interval_of p) spans)
  in-order [] h rise apart = tt
  in-order (span ∷ []) h rise apart = one-rises span h.0 rise.0
  in-order (span ∷ next ∷ spans) h rise apart = (
    one-rises span h.0 rise.0,
    inl (refl, cut-order span.upper next.lower h.0.upper h.1.0.lower ∙ apart.0),
    in-order (next ∷ spans) h.1 rise.1 apart.1,
  )

-- those for releases, and those for prereleases after them
pub both-in-order : (spans parts : List (Ends VersionValue))
    → AreInOrder (map (interval_of false) spans) → AreInOrder (map (interval_of true) parts)
    → AreInOrder (map (interval_of false) spans ++ map (interval_of true) parts)
both-in-order [] parts a b = b
both-in-order (span ∷ []) [] a b = a
both-in-order (span ∷ []) (part ∷ parts) a b = (a, inr (refl, refl), b)
both-in-order (span ∷ next ∷ spans) parts a b = (a.0, a.1, both-in-order (next ∷ spans) parts a.2 b)

-- ---- few

starts-few : (all earlier later : List (Ends VersionValue))
    → count_of_starts_from version_cmp all earlier later ≤ length later
starts-few all earlier [] = omega arith
starts-few all earlier (span ∷ later) = grind (arith, starts-few all (earlier ++ span ∷ []) later)

-- of each kind
all-count : (spans : List (Ends VersionValue))
    → length (filter (λ (i : IntervalValue). i.prereleases) (map (interval_of true) spans)) ≡ length spans
all-count [] = refl
all-count (span ∷ spans) = ap (λ n. suc n) (all-count spans)

others-none : (spans : List (Ends VersionValue))
    → length (filter (λ (i : IntervalValue). not i.prereleases) (map (interval_of true) spans)) ≡ 0
others-none [] = refl
others-none (span ∷ spans) = others-none spans

pub prereleases-count : (spans parts : List (Ends VersionValue)) → length (filter (λ (i : IntervalValue). i.prereleases)
    (map (interval_of false) spans ++ map (interval_of true) parts)) ≡ length parts
prereleases-count [] parts = all-count parts
prereleases-count (span ∷ spans) parts = prereleases-count spans parts

pub releases-count : (spans parts : List (Ends VersionValue)) → length (filter (λ (i : IntervalValue). not i.prereleases)
    (map (interval_of false) spans ++ map (interval_of true) parts)) ≡ length spans
releases-count [] parts = others-none parts
releases-count (span ∷ spans) parts = ap (λ n. suc n) (releases-count spans parts)

-- ---- the parts: each begins below where it ends, and there are at most two of a set

for-rise : (set : Ends VersionValue) (v : VersionValue) (xs : List IdentifierValue)
    → AreRising version_cmp (parts_for set v xs) × (length (parts_for set v xs) ≤ 1)
unfolding parts_for
for-rise set v [] = (tt, omega arith)
for-rise set v (x ∷ xs) = common_of-cases version_total set (prereleases_of v)
    (λ spans. AreRising version_cmp spans × (length spans ≤ 1))
    (λ shared. (((common_ends-hold version_total set (prereleases_of v)).0 shared, tt), omega arith))
    (λ apart. (tt, omega arith))

at-rise : (set : Ends VersionValue) (c : Cut VersionValue)
    → AreRising version_cmp (parts_at set c) × (length (parts_at set c) ≤ 1)
at-rise set Start = (tt, omega arith)
at-rise set (Before v) = for-rise set v v.pre_release
at-rise set (After v) = for-rise set v v.pre_release
at-rise set End = (tt, omega arith)

pub parts-rise : (sets : List (Ends VersionValue)) → AreRising version_cmp (flat_map parts_of sets)
parts-rise [] = tt
parts-rise (set ∷ sets) =
    let Rises = λ (span : Ends VersionValue). IsCutBelow version_cmp span.lower span.upper in
    all-append Rises (parts_of set) (flat_map parts_of sets)
    (all-append Rises (parts_at set set.lower) (parts_at set set.upper) (at-rise set set.lower).0
    (at-rise set set.upper).0) (parts-rise sets)

pub parts-few : (sets : List (Ends VersionValue)) → length (flat_map parts_of sets) ≤ 2 * length sets
parts-few [] = omega arith
parts-few (set ∷ sets) =
    let lower = (at-rise set set.lower).1 in
    let upper = (at-rise set set.upper).1 in
    let rest = parts-few sets in
    omega (
      arith,
      length-append (parts_of set) (flat_map parts_of sets),
      length-append (parts_at set set.lower) (parts_at set set.upper),
      lower,
      upper,
      rest,
    )

pub sets-rise : (sets : List (Ends VersionValue)) → IsRangeValue sets → AreRising version_cmp sets
sets-rise sets value = all_map IsRangeSet (λ (span : Ends VersionValue). IsCutBelow version_cmp span.lower span.upper)
    (λ set is. (holds-below version_total set).0 is.holds) sets value.each

-- ---- the whole

-- what the law of merged spans says
abbrev pub Counts : Type 0
Counts = (spans joined : List (Ends VersionValue)) → AreRising version_cmp spans → AreJoined version_cmp spans joined
    → length joined ≡ count_of_starts version_cmp spans

joined-few : Counts → (spans joined : List (Ends VersionValue)) → AreRising version_cmp spans
    → AreJoined version_cmp spans joined → length joined ≤ length spans
joined-few counts spans joined rise j =
    let count = counts spans joined rise j in let few = starts-few spans [] spans in omega (arith, count, few)

pub gathered-few : Counts → (range joined parts : List (Ends VersionValue)) (intervals : List IntervalValue)
    → IsRangeValue range → AreGathered range joined parts intervals → AreFew (length range) intervals
gathered-few counts range joined parts intervals value g =
    let spans = joined-few counts range joined (sets-rise range value) g.spans in
    let opened = joined-few counts (flat_map parts_of range) parts (parts-rise range) g.opened in
    let few = parts-few range in
    subst (AreFew (length range)) (sym g.whole) (record {
      order = both-in-order joined parts (in-order false joined g.span_words g.spans.merged.rising g.spans.merged.apart)
          (in-order true parts g.part_words g.opened.merged.rising g.opened.merged.apart);
      releases = omega (arith, releases-count joined parts, spans);
      prereleases = omega (arith, prereleases-count joined parts, opened, few);
    })

pub range-few_both : Counts → (range sets joined joined_seen : List (Ends VersionValue)) (start one : List IntervalValue)
    → IsRangeValue sets
    → sets ≡ range → AreJoined version_cmp sets joined → start ≡ [] → joined_seen ≡ joined
    → one ≡ start ++ map (interval_of true) joined_seen → AllByRecursion HasSpanWords joined_seen
    → AreInOrder one × (length one ≤ length range)
range-few_both counts range sets joined joined_seen start one value a q e f g h =
    let first : one ≡ map (interval_of true) joined = g ∙ (λ t. e t ++ map (interval_of true) (f t)) in
    let words = subst (AllByRecursion HasSpanWords) f h in
    let few = joined-few counts sets joined (sets-rise sets value) q in
    let long : length one ≡ length joined = ap length first ∙ length-map joined (interval_of true) in
    let same : length sets ≡ length range = ap length a in (
      subst AreInOrder (sym first) (in-order true joined words q.merged.rising q.merged.apart),
      omega (arith, few, long, same),
    )

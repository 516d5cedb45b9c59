-- A version's key lies in the interval of a span exactly if the cut before the version lies in the span.
use Rattle.std.proofs.Common.{◌≡◌, ◌≢◌, ◌⊎◌, ◌↔◌, ◌++◌, Bool, true, false, ℕ, List, [], ◌∷◌, map, refl, sym, ap, ◌∙◌, subst, inl, inr}
use Rattle.std.proofs.lemmas.Bool.{true≢false}
use Rattle.std.specs.List.{AllByRecursion, flat_map}
use Rattle.std.specs.declared.cmp.Ordering.{Ordering}
use Rattle.std.specs.declared.cmp.Ordering.TheVariants.{Less, Equal}
use Rattle.semver_cuts.specs.declared.cut.Cut.{Cut}
use Rattle.semver_cuts.specs.declared.cut.Cut.TheVariants.{Before}
use Rattle.semver_cuts.specs.Cut.{cut_cmp}
use Rattle.semver_cuts.specs.Ends.{Ends, IsInSpan}
use Rattle.semver_cuts.specs.Joined.{AreJoined}
use Rattle.semver_cuts.specs.SpanLists.{IsInSome}
use Rattle.semver_cuts.specs.Lemmas.Lists.{any-either, any-left, any-right}
use Rattle.semver_texts.specs.Comparison.{version_cmp}
use Rattle.semver_texts.specs.Version.{VersionValue}
use Rattle.semver_sets.specs.Meaning.{RangeAdmits, RangeContains}
use Rattle.semver_keys.specs.KeyOrder.{key_cmp}
use Rattle.semver_keys.specs.CutKey.{HasCutWords, cut_key}
use Rattle.semver_keys.specs.Intervals.{AreIntervalsOf, AreIntervalsOfBoth, IntervalValue, IsKeyIn, IsKeyInSome}
use Rattle.semver_keys.specs.VersionKey.{HasWords, version_key}
use Rattle.semver_keys.specs.Lemmas.CutOrder.{cut-order}
use Rattle.semver_keys.specs.Private.Opened.{parts_of}
use Rattle.semver_keys.specs.Private.SpanIntervals.{HasSpanWords, interval_of}
use Rattle.semver_keys.proofs.Prereleases.{prerelease-admitted, release-admitted}
use Rattle.semver_keys.proofs.VersionSteps.{before-is}

-- ---- one span

cut-below : (c : Cut VersionValue) (v : VersionValue) → HasCutWords c → HasWords v
    → key_cmp (cut_key c) (version_key v) ≡ cut_cmp version_cmp c (Before v)
cut-below c v h k = ap (key_cmp (cut_key c)) (sym (before-is v)) ∙ cut-order c (Before v) h k

cut-above : (c : Cut VersionValue) (v : VersionValue) → HasCutWords c → HasWords v
    → key_cmp (version_key v) (cut_key c) ≡ cut_cmp version_cmp (Before v) c
cut-above c v h k = ap (λ key. key_cmp key (cut_key c)) (sym (before-is v)) ∙ cut-order (Before v) c k h

-- less, or equal
abbrev AtMost : Ordering → Type 0
AtMost o = (o ≡ Less) ⊎ (o ≡ Equal)

in-interval : (p : Bool) (span : Ends VersionValue) (v : VersionValue) → HasSpanWords span → HasWords v
    → IsKeyIn (version_key v) (interval_of p span) ↔ IsInSpan version_cmp span (Before v)
in-interval p span v h k =
    let lower = cut-below span.lower v h.lower k in
    let upper = cut-above span.upper v h.upper k in (
      λ is. record { lower = subst AtMost lower is.lower; upper = sym upper ∙ is.upper },
      λ is. record { lower = subst AtMost (sym lower) is.lower; upper = upper ∙ is.upper },
    )

-- ---- the intervals of a list of spans

pub in-some : (p : Bool) (spans : List (Ends VersionValue)) (v : VersionValue) → AllByRecursion HasSpanWords spans
    → HasWords v
    → IsKeyInSome p (map (interval_of p) spans) (version_key v) ↔ IsInSome version_cmp spans (Before v)
in-some p [] v h k = (λ is. is, λ is. is)
in-some p (span ∷ spans) v h k =
    let one = in-interval p span v h.0 k in
    let others = in-some p spans v h.1 k in (
      λ is. elim is [ inl here ↦ inl (one.0 here.1) | inr there ↦ inr (others.0 there) ],
      λ is. elim is [ inl here ↦ inl (refl, one.1 here) | inr there ↦ inr (others.1 there) ],
    )

-- no interval of another kind
none-of : (p q : Bool) (spans : List (Ends VersionValue)) (key : List ℕ) → p ≢ q
    → ¬ IsKeyInSome q (map (interval_of p) spans) key
none-of p q [] key other is = is
none-of p q (span ∷ spans) key other (inl here) = other here.0
none-of p q (span ∷ spans) key other (inr there) = none-of p q spans key other there

-- ---- the intervals of a range

-- the test of an interval of this kind
abbrev In : Bool → List ℕ → IntervalValue → Type 0
In p key i = (i.prereleases ≡ p) × IsKeyIn key i

pub intervals-are : (sets joined parts : List (Ends VersionValue)) → AreJoined version_cmp sets joined
    → AreJoined version_cmp (flat_map parts_of sets) parts
    → AllByRecursion HasSpanWords joined → AllByRecursion HasSpanWords parts
    → AreIntervalsOf (RangeAdmits sets) (map (interval_of false) joined ++ map (interval_of true) parts)
intervals-are sets joined parts j q h k = record {
  releases = λ v words plain.
      let admitted = release-admitted sets v plain in
      let some = in-some false joined v h words in (
        λ admits. any-left (In false (version_key v)) _ _ (some.1 ((j.cuts (Before v)).1 (admitted.0 admits))),
        λ is. elim (any-either (In false (version_key v)) (map (interval_of false) joined)
            (map (interval_of true) parts) is) [
              | inl here ↦ admitted.1 ((j.cuts (Before v)).0 (some.0 here))
              | inr there ↦ absurd (none-of true false parts (version_key v) true≢false there)
            ],
      );
  prereleases = λ v words pre.
      let admitted = prerelease-admitted sets v pre in
      let some = in-some true parts v k words in (
        λ admits. any-right (In true (version_key v)) (map (interval_of false) joined) _
            (some.1 ((q.cuts (Before v)).1 (admitted.0 admits))),
        λ is. elim (any-either (In true (version_key v)) (map (interval_of false) joined)
            (map (interval_of true) parts) is) [
              | inl here ↦ absurd (none-of false true joined (version_key v) (λ e. true≢false (sym e)) here)
              | inr there ↦ admitted.1 ((q.cuts (Before v)).0 (some.0 there))
            ],
      );
}

pub intervals-are_both : (sets joined : List (Ends VersionValue)) → AreJoined version_cmp sets joined
    → AllByRecursion HasSpanWords joined → AreIntervalsOfBoth (RangeContains sets) (map (interval_of true) joined)
intervals-are_both sets joined j h v words =
    let some = in-some true joined v h words in
    (λ contains. some.1 ((j.cuts (Before v)).1 contains), λ is. (j.cuts (Before v)).0 (some.0 is))

-- ---- what the calls return

-- the spans and the parts that a range is joined to, and the intervals of them
pub record AreGathered (range joined parts : List (Ends VersionValue)) (intervals : List IntervalValue) : Type 0 where
  pub spans : AreJoined version_cmp range joined
  pub opened : AreJoined version_cmp (flat_map parts_of range) parts
  pub span_words : AllByRecursion HasSpanWords joined
  pub part_words : AllByRecursion HasSpanWords parts
  pub whole : intervals ≡ map (interval_of false) joined ++ map (interval_of true) parts

pub gathered : (range sets seen opened joined parts joined_seen parts_seen : List (Ends VersionValue))
    (start one two : List IntervalValue) → sets ≡ range → seen ≡ sets → opened ≡ flat_map parts_of seen
    → AreJoined version_cmp opened parts → AreJoined version_cmp sets joined
    → start ≡ [] → joined_seen ≡ joined → one ≡ start ++ map (interval_of false) joined_seen
    → AllByRecursion HasSpanWords joined_seen → parts_seen ≡ parts → two ≡ one ++ map (interval_of true) parts_seen
    → AllByRecursion HasSpanWords parts_seen → AreGathered range joined parts two
gathered range sets seen opened joined parts joined_seen parts_seen start one two a b d j q e f g h i k l =
    let first : one ≡ map (interval_of false) joined = g ∙ (λ t. e t ++ map (interval_of false) (f t)) in
    record {
      spans = subst (λ r. AreJoined version_cmp r joined) a q;
      opened = subst (λ o. AreJoined version_cmp o parts) (d ∙ ap (flat_map parts_of) (b ∙ a)) j;
      span_words = subst (AllByRecursion HasSpanWords) f h;
      part_words = subst (AllByRecursion HasSpanWords) i l;
      whole = k ∙ (λ t. first t ++ map (interval_of true) (i t));
    }

pub gathered-mean : (range joined parts : List (Ends VersionValue)) (intervals : List IntervalValue)
    → AreGathered range joined parts intervals → AreIntervalsOf (RangeAdmits range) intervals
gathered-mean range joined parts intervals g = subst (AreIntervalsOf (RangeAdmits range)) (sym g.whole)
    (intervals-are range joined parts g.spans g.opened g.span_words g.part_words)

pub range-is_both : (range sets joined joined_seen : List (Ends VersionValue)) (start one : List IntervalValue)
    → sets ≡ range → AreJoined version_cmp sets joined → start ≡ [] → joined_seen ≡ joined
    → one ≡ start ++ map (interval_of true) joined_seen → AllByRecursion HasSpanWords joined_seen
    → AreIntervalsOfBoth (RangeContains range) one
range-is_both range sets joined joined_seen start one a q e f g h =
    let first : one ≡ map (interval_of true) joined = g ∙ (λ t. e t ++ map (interval_of true) (f t)) in
    subst (λ r. AreIntervalsOfBoth (RangeContains r) one) a (subst (AreIntervalsOfBoth (RangeContains sets)) (sym first)
    (intervals-are_both sets joined q (subst (AllByRecursion HasSpanWords) f h)))

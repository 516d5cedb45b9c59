-- The releases that sets contain, as spans that end at releases.
use Rattle.std.proofs.Common.{◌≡◌, ◌↔◌, ◌++◌, ◌<◌, ◌+◌, ◌≤◌, ℕ, List, [], ◌∷◌, Option, Some, None, IfSome, IsSome, get_or}
use Rattle.std.proofs.Common.{inl, inr, length, subst, take}
use Rattle.std.proofs.lemmas.List.{take_all, take_more}
use Rattle.std.specs.List.{AllByRecursion}
use Rattle.semver_cuts.specs.Difference.{IsFirstAt}
use Rattle.semver_cuts.specs.Ends.{Ends, HoldsCut, span_between}
use Rattle.semver_cuts.specs.Joined.{AreJoined}
use Rattle.semver_cuts.specs.Lemmas.Ends.{at_most-or-below, below-not-at_most}
use Rattle.semver_cuts.specs.Lemmas.Lists.{all-append, all_map, all_middle, any-either, any-left, any-right}
use Rattle.semver_texts.specs.Lemmas.Public.{version_total}
use Rattle.node_semver.specs.Cuts.{Before, Cut}
use Rattle.node_semver.specs.Ranges.{IsInside, RangeContains}
use Rattle.node_semver.specs.Versions.{IsPrerelease, VersionValue, version_cmp}
use Rattle.npm_advisories.specs.Private.Covering.{AreCovered, HaveReleases, IsAligned, IsAlignedTo}
use Rattle.npm_advisories.specs.Lemmas.Spans.{Have, span_list}

-- ---- one set

module _ (set : Ends VersionValue) (lower upper : Cut VersionValue) (low : IsAlignedTo set.lower lower)
    (high : IsAlignedTo set.upper upper) where
  same-inside : (v : VersionValue) → ¬ IsPrerelease v → IsInside v (span_between lower upper) ↔ IsInside v set
  same-inside v release = (
    λ is. record {
      lower = elim (at_most-or-below version_total set.lower (Before v)) [
        | inl most ↦ most
        | inr early ↦ absurd (below-not-at_most version_total (Before v) lower ((low.same v release).1 early) is.lower)
      ];
      upper = (high.same v release).0 is.upper;
    },
    λ is. record {
      lower = elim (at_most-or-below version_total lower (Before v)) [
        | inl most ↦ most
        | inr early ↦
            absurd (below-not-at_most version_total (Before v) set.lower ((low.same v release).0 early) is.lower)
      ];
      upper = (high.same v release).1 is.upper;
    },
  )

  pub aligned-some : HaveReleases (span_between lower upper ∷ []) (λ v. IsInside v set)
  aligned-some = record {
    aligned = (high.is, tt);
    exact = λ v release. (
      λ contains. elim contains [
        | inl here ↦ (same-inside v release).0 here
        | inr there ↦ absurd there
      ],
      λ inside. inl ((same-inside v release).1 inside),
    );
  }

  pub aligned-none : ¬ HoldsCut version_cmp (span_between lower upper) → HaveReleases [] (λ v. IsInside v set)
  aligned-none none = record {
    aligned = tt;
    exact = λ v release. (
      λ contains. absurd contains,
      λ inside. absurd (none (Before v, (same-inside v release).1 inside)),
    );
  }

  pub aligned-result : (found : Option (Ends VersionValue))
      → (IsSome found ↔ HoldsCut version_cmp (span_between lower upper))
      → IfSome found (λ span. span ≡ span_between lower upper) → HaveReleases (span_list found) (λ v. IsInside v set)
  aligned-result (Some span) some is = rw is aligned-some
  aligned-result None some is = aligned-none (λ holds. let no = some.1 holds in absurd (cc no))

-- ---- one set after another

pub releases-first : HaveReleases [] (RangeContains [])
releases-first = record { aligned = tt; exact = λ v release. (λ is. is, λ is. is) }

pub releases-next : (sets : List (Ends VersionValue)) (i : ℕ) (set : Ends VersionValue)
    (old more new : List (Ends VersionValue)) → i < length sets → set ≡ get_or sets i set → new ≡ old ++ more
    → HaveReleases old (RangeContains (take i sets)) → HaveReleases more (λ v. IsInside v set)
    → HaveReleases new (RangeContains (take (i + 1) sets))
releases-next sets i set old more new lt is e had has = rw (e, take_more sets i set lt, ← is) (record {
  aligned = all-append (λ (s : Ends VersionValue). IsAligned s.upper) old more had.aligned has.aligned;
  exact = λ v release. (
    λ contains. elim (any-either (IsInside v) old more contains) [
      | inl here ↦ any-left (IsInside v) (take i sets) (set ∷ []) ((had.exact v release).0 here)
      | inr there ↦ any-right (IsInside v) (take i sets) (set ∷ []) (inl ((has.exact v release).0 there))
    ],
    λ contains. elim (any-either (IsInside v) (take i sets) (set ∷ []) contains) [
      | inl here ↦ any-left (IsInside v) old more ((had.exact v release).1 here)
      | inr there ↦ elim there [
        | inl inside ↦ any-right (IsInside v) old more ((has.exact v release).1 inside)
        | inr none ↦ absurd none
      ]
    ],
  );
})

pub releases-all : (sets : List (Ends VersionValue)) (i : ℕ) (spans : List (Ends VersionValue)) → length sets ≤ i
    → HaveReleases spans (RangeContains (take i sets)) → HaveReleases spans (RangeContains sets)
releases-all sets i spans done have =
    subst (λ l. HaveReleases spans (RangeContains l)) (take_all i sets done) have

-- ---- joined

pub covered-joined : (Has : VersionValue → Type 0) (spans joined : List (Ends VersionValue))
    → AreJoined version_cmp spans joined → HaveReleases spans Has → AreCovered joined Has
covered-joined Has spans joined are have = record {
  steps = record {
    merged = are.merged;
    aligned = all_map (λ (s : Ends VersionValue). IsFirstAt version_cmp (λ (t : Ends VersionValue). t.upper) spans s.upper)
        (λ (s : Ends VersionValue). IsAligned s.upper) (λ s first. subst IsAligned first.end_of
        (all_middle (λ (t : Ends VersionValue). IsAligned t.upper) first.before first.after first.span
        (subst (AllByRecursion (λ (t : Ends VersionValue). IsAligned t.upper)) first.parts have.aligned))) joined are.uppers;
  };
  exact = λ v release. (
    λ contains. (have.exact v release).0 ((are.cuts (Before v)).0 contains),
    λ has. (are.cuts (Before v)).1 ((have.exact v release).1 has),
  );
}

-- the same of other versions that the sets have
pub covered-have : (Has : VersionValue → Type 0) (sets spans : List (Ends VersionValue)) → Have sets Has
    → AreCovered spans (RangeContains sets) → AreCovered spans Has
covered-have Has sets spans have are = record {
  steps = are.steps;
  exact = λ v release. (
    λ contains. (have.exact v).0 ((are.exact v release).0 contains),
    λ has. (are.exact v release).1 ((have.exact v).1 has),
  );
}

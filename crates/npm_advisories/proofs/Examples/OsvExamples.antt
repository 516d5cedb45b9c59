-- Which versions some OSV ranges have, and which they have not.
use Rattle.std.proofs.Common.{◌≡◌, ◌∙◌, ◌⊎◌, ◌∷◌, [], List, Some, ap, arith, codes, inl, inr, length, refl, subst, sym}
use lib.Utf8.{encode}
use Rattle.std.specs.Str.{chars}
use Rattle.semver_cuts.specs.Ends.{IsCutAtMost, IsCutBelow}
use Rattle.semver_texts.specs.IdentifierValue.{numeric}
use Rattle.semver_versions.specs.Lemmas.Public.{is-version_in, one_reading, version_in}
use Rattle.node_semver.specs.Cuts.{After, Before, Cut}
use Rattle.node_semver.specs.Ranges.{AnyByRecursion}
use Rattle.node_semver.specs.Versions.{IsVersionText, VersionValue, least_of, release, version_cmp}
use Rattle.npm_texts.specs.InstalledVersions.{bare}
use Rattle.npm_advisories.specs.ReadVersions.{IsReadAs, by_npm}
use Rattle.npm_advisories.specs.OsvRanges.{Begins, EndsAt, EventValue, IsDoubtful, IsInEvents, IsInOsv, IsIntroducedAt}
use Rattle.npm_advisories.specs.OsvRanges.{LimitsAt, fixed, introduced, last_affected, limit}

one : IsVersionText (codes "1.0.0") (release 1 0 0)
unfolding version_in
one = is-version_in _ _ (omega arith) refl

pub two : IsVersionText (codes "2.0.0") (release 2 0 0)
unfolding version_in
two = is-version_in _ _ (omega arith) refl

-- ---- `introduced` 1.0.0 and `fixed` 2.0.0

abbrev events : List EventValue
events = introduced (codes "1.0.0") ∷ fixed (codes "2.0.0") ∷ []

-- the fault is introduced at 1.0.0, and goes on behind it
introduced_at_one : (cut : Cut VersionValue) → IsIntroducedAt events cut
    → (cut ≡ Before (release 1 0 0)) ⊎ (cut ≡ After (release 1 0 0))
introduced_at_one cut (inl (inl (inl zero))) = absurd (cc zero.0)
introduced_at_one cut (inl (inl (inr at))) = inl (at.2 ∙ ap Before (one_reading _ at.0 (release 1 0 0) at.1 one))
introduced_at_one cut (inl (inr (inl none))) = absurd none
introduced_at_one cut (inl (inr (inr none))) = absurd none
introduced_at_one cut (inr (inl behind)) = inr (behind.3 ∙ ap After (one_reading _ behind.0 (release 1 0 0) behind.1 one))
introduced_at_one cut (inr (inr (inl none))) = absurd none
introduced_at_one cut (inr (inr (inr none))) = absurd none

ended_at_two : (cut : Cut VersionValue) → AnyByRecursion (λ event. EndsAt event cut) events
    → cut ≡ Before (release 2 0 0)
ended_at_two cut (inl none) = absurd none
ended_at_two cut (inr (inl at)) = at.2 ∙ ap Before (one_reading _ at.0 (release 2 0 0) at.1 two)
ended_at_two cut (inr (inr none)) = absurd none

-- no limit, and no doubt where 1.0.0 ends
no_limit : (cut : Cut VersionValue) → ¬ AnyByRecursion (λ event. LimitsAt event cut) events
no_limit cut (inl none) = none
no_limit cut (inr (inl none)) = none
no_limit cut (inr (inr none)) = none

no_doubt : (v : VersionValue) → ¬ IsDoubtful (IsIntroducedAt events)
    (λ cut. AnyByRecursion (λ event. EndsAt event cut) events) v
no_doubt v is = elim (introduced_at_one (Before v) is.introduced) [
  | inl at ↦
      let same : v ≡ release 1 0 0 = cc at in
      elim (subst (λ w. IsCutAtMost version_cmp (Before (release 2 0 0)) (After w)) same
      (subst (λ c. IsCutAtMost version_cmp c (After v)) (ended_at_two is.end is.ended) is.here)) [
        | inl less ↦ cc less
        | inr equal ↦ cc equal
      ]
  | inr behind ↦ cc behind
]

begins_at_one : (cut : Cut VersionValue) → Begins (IsIntroducedAt events)
    (λ cut. AnyByRecursion (λ event. EndsAt event cut) events) cut
    → (cut ≡ Before (release 1 0 0)) ⊎ (cut ≡ After (release 1 0 0))
begins_at_one cut (inl here) = introduced_at_one cut here
begins_at_one cut (inr again) = absurd (no_doubt again.0 again.1)

-- a version from the one on, and before the other
between : (v : VersionValue) → IsCutAtMost version_cmp (Before (release 1 0 0)) (Before v)
    → IsCutBelow version_cmp (Before v) (Before (release 2 0 0)) → IsInEvents events v
between v from before = record {
  from = Before (release 1 0 0);
  begins = inl (inl (inl (inr (release 1 0 0, one, refl))));
  reached = from;
  lasts = λ end some later. subst (IsCutBelow version_cmp (Before v)) (sym (ended_at_two end some)) before;
  limited = inl no_limit;
}

pub a_version_is_hit_from_where_it_is_introduced : IsInEvents events (release 1 0 0)
a_version_is_hit_from_where_it_is_introduced = between (release 1 0 0) (inr refl) refl

pub a_version_between_is_hit : IsInEvents events (release 1 5 0)
a_version_between_is_hit = between (release 1 5 0) (inl refl) refl

-- `2.0.0-0` is less than 2.0.0
pub a_prerelease_of_the_fixed_version_is_hit : IsInEvents events (least_of 2 0 0)
a_prerelease_of_the_fixed_version_is_hit = between (least_of 2 0 0) (inl refl) refl

pub an_earlier_version_is_not_hit : ¬ IsInEvents events (release 0 9 0)
an_earlier_version_is_not_hit is = elim (begins_at_one is.from is.begins) [
  | inl at ↦ elim (subst (λ c. IsCutAtMost version_cmp c (Before (release 0 9 0))) at is.reached) [
    | inl less ↦ cc less
    | inr equal ↦ cc equal
  ]
  | inr behind ↦ elim (subst (λ c. IsCutAtMost version_cmp c (Before (release 0 9 0))) behind is.reached) [
    | inl less ↦ cc less
    | inr equal ↦ cc equal
  ]
]

pub the_fixed_version_is_not_hit : ¬ IsInEvents events (release 2 0 0)
the_fixed_version_is_not_hit is =
    let later : IsCutBelow version_cmp is.from (Before (release 2 0 0)) = elim (begins_at_one is.from is.begins) [
      | inl at ↦ subst (λ c. IsCutBelow version_cmp c (Before (release 2 0 0))) (sym at) refl
      | inr behind ↦ subst (λ c. IsCutBelow version_cmp c (Before (release 2 0 0))) (sym behind) refl
    ] in
    cc (is.lasts (Before (release 2 0 0)) (inr (inl (release 2 0 0, two, refl))) later)

-- ---- `last_affected` 2.0.0

-- it is the only end of these events
last_at_two : (cut : Cut VersionValue) → EndsAt (last_affected (codes "2.0.0")) cut → cut ≡ After (release 2 0 0)
last_at_two cut at = at.2 ∙ ap After (one_reading _ at.0 (release 2 0 0) at.1 two)

abbrev until_two : List EventValue
until_two = introduced (codes "1.0.0") ∷ last_affected (codes "2.0.0") ∷ []

pub the_last_affected_version_is_hit : IsInEvents until_two (release 2 0 0)
the_last_affected_version_is_hit = record {
  from = Before (release 1 0 0);
  begins = inl (inl (inl (inr (release 1 0 0, one, refl))));
  reached = inl refl;
  lasts = λ end some later. elim some [
    | inl none ↦ absurd none
    | inr rest ↦ elim rest [
      | inl at ↦ subst (IsCutBelow version_cmp (Before (release 2 0 0))) (sym (last_at_two end at)) refl
      | inr none ↦ absurd none
    ]
  ];
  limited = inl (λ cut some. elim some [
    | inl none ↦ none
    | inr rest ↦ elim rest [
      | inl none ↦ none
      | inr none ↦ none
    ]
  ]);
}

-- ---- `introduced` 1.0.0 and `limit` 2.0.0

abbrev limited_at_two : List EventValue
limited_at_two = introduced (codes "1.0.0") ∷ limit (codes "2.0.0") ∷ []

limit_at_two : (cut : Cut VersionValue) → AnyByRecursion (λ event. LimitsAt event cut) limited_at_two
    → cut ≡ Before (release 2 0 0)
limit_at_two cut (inl none) = absurd none
limit_at_two cut (inr (inl (inl star))) = absurd (cc star.0)
limit_at_two cut (inr (inl (inr at))) = at.2 ∙ ap Before (one_reading _ at.0 (release 2 0 0) at.1 two)
limit_at_two cut (inr (inr none)) = absurd none

pub a_version_before_a_limit_is_hit : IsInEvents limited_at_two (release 1 5 0)
a_version_before_a_limit_is_hit = record {
  from = Before (release 1 0 0);
  begins = inl (inl (inl (inr (release 1 0 0, one, refl))));
  reached = inl refl;
  lasts = λ end some later. absurd (elim some [
    | inl none ↦ none
    | inr rest ↦ elim rest [
      | inl none ↦ none
      | inr none ↦ none
    ]
  ]);
  limited = inr (Before (release 2 0 0), inr (inl (inr (release 2 0 0, two, refl))), refl);
}

pub the_limit_is_not_hit : ¬ IsInEvents limited_at_two (release 2 0 0)
the_limit_is_not_hit is = elim is.limited [
  | inl none ↦ none (Before (release 2 0 0)) (inr (inl (inr (release 2 0 0, two, refl))))
  | inr some ↦ cc (subst (IsCutBelow version_cmp (Before (release 2 0 0))) (limit_at_two some.0 some.1) some.2)
]

-- ---- listed versions

bare_one : bare (codes "=1.0.0") ≡ codes "1.0.0"
unfolding bare chars encode
bare_one = refl

six : length (chars (codes "=1.0.0")) ≡ 6
unfolding chars
six = refl

-- a version is read as npm reads it
pub an_equals_sign_is_passed_over : IsReadAs (codes "=1.0.0") (Some (release 1 0 0))
an_equals_sign_is_passed_over = by_npm (release 1 0 0) (record {
  short = omega (arith, six);
  digit = rw bare_one refl;
  read = subst (λ t. IsVersionText t (release 1 0 0)) (sym bare_one) one;
})

-- builds do not count
pub a_listed_version_is_hit : IsInOsv [] (codes "=1.0.0" ∷ []) (record (release 1 0 0) { build = numeric 7 ∷ [] })
a_listed_version_is_hit = inr (inl (record {
  listed = release 1 0 0;
  read = an_equals_sign_is_passed_over;
  same = record { triple = record { major = refl; minor = refl; patch = refl }; pre_release = refl };
}))

pub no_range_and_no_version_hit_nothing : (v : VersionValue) → ¬ IsInOsv [] [] v
no_range_and_no_version_hit_nothing v (inl none) = none
no_range_and_no_version_hit_nothing v (inr none) = none

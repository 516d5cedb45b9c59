-- Worked examples: steps from version to version, and versions that are, or are not, the least of a range.
use Rattle.std.proofs.Common.{◌≡◌, ℕ, List, [], ◌∷◌, ◌++◌, ap, arith, codes, refl, subst, inl, inr}
use Rattle.std.specs.List.{AllByRecursion}
use Rattle.semver_cuts.specs.declared.cut.Cut.TheVariants.{Before, After}
use Rattle.semver_cuts.specs.Ends.{Ends, IsCutAtMost, span_between}
use Rattle.semver_sets.specs.Comparator.{at_least}
use Rattle.semver_texts.specs.Comparison.{version_cmp}
use Rattle.semver_texts.specs.IdentifierValue.{IdentifierValue, alphanumeric, numeric}
use Rattle.semver_sets.specs.Meaning.{SetAdmits}
use Rattle.semver_texts.specs.Order.{IsBelow, before_release}
use Rattle.semver_texts.specs.Version.{VersionValue, least_of, release}
use Rattle.semver_versions.specs.Lemmas.Public.{next-above, none-before_next}
use Rattle.semver_texts.specs.Lemmas.Public.{version-Less}
use Rattle.node_semver.specs.Least.{AdmitsNone, HasBuildOfFirst, IsLeastAdmitted, build_at}
use Rattle.semver_versions.specs.VersionSteps.{HasGreatestPatch, next_version}
use Rattle.node_semver.proofs.Least.LeastLemmas.{after-floor}

-- ---- steps

-- `1.0.0-a`, with more identifiers after the first
abbrev tagged : List IdentifierValue → VersionValue
tagged identifiers = record (release 1 0 0) { pre_release = alphanumeric (codes "a") ∷ identifiers }

-- `1.2.4-0` is next after `1.2.3`
after-release : next_version (release 1 2 3) ≡ least_of 1 2 4
after-release = refl

-- `1.0.0-a.0` is next after `1.0.0-a+1`, and has no build
after-prerelease : next_version (record (tagged []) { build = numeric 1 ∷ [] }) ≡ tagged (numeric 0 ∷ [])
after-prerelease = refl

-- the last release of `1.2` has no next one
last-release : HasGreatestPatch (release 1 2 18446744073709551615)
last-release = record { is_release = refl; patch = refl }

-- a prerelease of it has
last-prerelease : ¬ HasGreatestPatch (least_of 1 2 18446744073709551615)
last-prerelease last = cc last.is_release

after-last_prerelease : next_version (least_of 1 2 18446744073709551615)
    ≡ record (least_of 1 2 18446744073709551615) { pre_release = numeric 0 ∷ numeric 0 ∷ [] }
after-last_prerelease = refl

-- ---- an upper end that opens a triple: `>1.0.0 <1.0.1-beta || >=1.0.1`

abbrev first_set : Ends VersionValue
first_set = span_between (After (release 1 0 0))
    (Before (record (release 1 0 1) { pre_release = alphanumeric (codes "beta") ∷ [] }))

first_set-admits : SetAdmits first_set (least_of 1 0 1)
first_set-admits = record {
  inside = record { lower = inl refl; upper = refl };
  opened = λ _. inr ((λ e. cc e), record { major = refl; minor = refl; patch = refl });
}

-- what lies after `1.0.0` is not below `1.0.1-0`
after-first : (v : VersionValue) → IsCutAtMost version_cmp (After (release 1 0 0)) (Before v)
    → ¬ IsBelow v (least_of 1 0 1)
after-first v after below =
    let one = release 1 0 0 in
    (after-floor one (least_of 1 0 1) (next-above one) (none-before_next one)).none_below v after
    (version-Less v (least_of 1 0 1) below)

-- so `1.0.1-0` is the least of the first set alone
opened-least : IsLeastAdmitted (first_set ∷ []) (least_of 1 0 1)
opened-least = record {
  wanted = inl first_set-admits;
  none_below = λ v admits. elim admits [
    | inl here ↦ after-first v here.inside.lower
    | inr nowhere ↦ absurd nowhere
  ];
}

-- and `1.0.1`, which the second admits, is not that of both
release-not_least : ¬ IsLeastAdmitted (first_set ∷ at_least (release 1 0 1) ∷ []) (release 1 0 1)
release-not_least least = least.none_below (least_of 1 0 1) (inl first_set-admits)
    (before_release (record { major = refl; minor = refl; patch = refl }) (λ e. cc e) (λ pre. pre refl))

-- ---- a cut and no version: `>1.0.0-a <1.0.0-a.0`

nothing-admitted : AdmitsNone (span_between (After (tagged [])) (Before (tagged (numeric 0 ∷ []))) ∷ [])
nothing-admitted v admits = elim admits [
  | inl here ↦ (after-floor (tagged []) (tagged (numeric 0 ∷ [])) (next-above (tagged []))
      (none-before_next (tagged []))).none_below
      v here.inside.lower here.inside.upper
  | inr nowhere ↦ nowhere
]

-- ---- the build of the first set that admits it: `>=1.0.0+1 || >=1.0.0+2`

abbrev built : IdentifierValue → VersionValue
built identifier = record (release 1 0 0) { build = identifier ∷ [] }

-- a set that begins at 1.0.0, whatever the build, admits 1.0.0
from-admits : (one other : IdentifierValue) → SetAdmits (at_least (built one)) (built other)
from-admits one other =
    record { inside = record { lower = inr refl; upper = refl }; opened = λ pre. absurd (pre refl) }

first-build : HasBuildOfFirst (at_least (built (numeric 1)) ∷ at_least (built (numeric 2)) ∷ []) (built (numeric 1))
first-build = record {
  set = at_least (built (numeric 1));
  first = record {
    before = [];
    after = at_least (built (numeric 2)) ∷ [];
    parts = refl;
    earlier = tt;
    admits = from-admits (numeric 1) (numeric 1);
  };
  build = refl;
}

not_second : (before after : List (Ends VersionValue)) (set : Ends VersionValue)
    → at_least (built (numeric 1)) ∷ at_least (built (numeric 2)) ∷ [] ≡ before ++ set ∷ after
    → AllByRecursion (λ (other : Ends VersionValue). ¬ SetAdmits other (built (numeric 2))) before
    → ¬ ((built (numeric 2)).build ≡ build_at set.lower)
not_second [] after set parts earlier build =
    let first : at_least (built (numeric 1)) ≡ set = cc parts in
    let builds = ap (λ (s : Ends VersionValue). build_at s.lower) first in
    let numbers : numeric 1 ∷ [] ≡ numeric 2 ∷ [] = cc (builds, build) in
    let same : ◌≡◌ {A = ℕ} 1 2 = cc numbers in
    absurd (omega arith)
not_second (first ∷ before) after set parts earlier build =
    let is : at_least (built (numeric 1)) ≡ first = cc parts in
    absurd (earlier.0 (subst (λ (s : Ends VersionValue). SetAdmits s (built (numeric 2))) is
    (from-admits (numeric 1) (numeric 2))))

-- not that of the second, though it admits it too
second-build : ¬ HasBuildOfFirst (at_least (built (numeric 1)) ∷ at_least (built (numeric 2)) ∷ []) (built (numeric 2))
second-build has =
    not_second has.first.before has.first.after has.set has.first.parts has.first.earlier has.build

-- but of the second where the first does not admit it: `>=2.0.0+1 || >=1.0.0+2`
abbrev two_built : VersionValue
two_built = record (release 2 0 0) { build = numeric 1 ∷ [] }

later-build : HasBuildOfFirst (at_least two_built ∷ at_least (built (numeric 2)) ∷ []) (built (numeric 2))
later-build = record {
  set = at_least (built (numeric 2));
  first = record {
    before = at_least two_built ∷ [];
    after = [];
    parts = refl;
    earlier = (λ admits. elim admits.inside.lower [ inl less ↦ cc less | inr same ↦ cc same ], tt);
    admits = from-admits (numeric 2) (numeric 2);
  };
  build = refl;
}

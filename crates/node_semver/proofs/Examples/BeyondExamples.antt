-- Worked examples: the versions that one range admits beyond another, and the greatest version of a list.
use Rattle.std.proofs.Common.{◌≡◌, ℕ, List, [], ◌∷◌, codes, true, false, refl, inl, inr}
use Rattle.semver_cuts.specs.declared.cut.Cut.TheVariants.{Start, Before, After}
use Rattle.semver_cuts.specs.Ends.{Ends, span_between}
use Rattle.semver_sets.specs.Comparator.{at_least}
use Rattle.semver_texts.specs.IdentifierValue.{IdentifierValue, alphanumeric, numeric}
use Rattle.semver_texts.specs.Version.{VersionValue, least_of, release}
use Rattle.semver_texts.specs.Lemmas.Public.{version-Less}
use Rattle.node_semver.specs.Greatest.{IsGreatestAdmitted}
use Rattle.node_semver.specs.Least.{AdmitsBeyond, ContainsBeyond, IsLeastBeyond}
use Rattle.node_semver.proofs.Least.BeyondAnswers.{range_admits, range_admits-iff, range_contains, range_contains-iff}
use Rattle.node_semver.proofs.Least.LeastLemmas.{before-floor}

-- ---- by computing

beyond-by : (sets others : List (Ends VersionValue)) (v : VersionValue) → range_admits sets v ≡ true
    → range_admits others v ≡ false → AdmitsBeyond sets others v
beyond-by sets others v holds fails = record {
  admitted = (range_admits-iff sets v).0 holds;
  turned_away = λ admits. cc ((range_admits-iff others v).1 admits, fails);
}

not-admitted : (sets others : List (Ends VersionValue)) (v : VersionValue) → range_admits sets v ≡ false
    → ¬ AdmitsBeyond sets others v
not-admitted sets others v fails beyond = cc ((range_admits-iff sets v).1 beyond.admitted, fails)

admitted-too : (sets others : List (Ends VersionValue)) (v : VersionValue) → range_admits others v ≡ true
    → ¬ AdmitsBeyond sets others v
admitted-too sets others v holds beyond = beyond.turned_away ((range_admits-iff others v).0 holds)

-- ---- `1 - 2` and `1 || 2`

abbrev one_to_two : List (Ends VersionValue)
one_to_two = span_between (Before (release 1 0 0)) (Before (least_of 3 0 0)) ∷ []

abbrev one_or_two : List (Ends VersionValue)
one_or_two = span_between (Before (release 1 0 0)) (Before (least_of 2 0 0))
    ∷ span_between (Before (release 2 0 0)) (Before (least_of 3 0 0)) ∷ []

-- the least version of the cuts that the second lacks is none: no end is a prerelease of 2.0.0 in the first
gap-not_beyond : ¬ AdmitsBeyond one_to_two one_or_two (least_of 2 0 0)
gap-not_beyond = not-admitted one_to_two one_or_two (least_of 2 0 0) refl

-- with prereleases included it is there
contained-by : (sets others : List (Ends VersionValue)) (v : VersionValue) → range_contains sets v ≡ true
    → range_contains others v ≡ false → ContainsBeyond sets others v
contained-by sets others v there not_there = record {
  admitted = (range_contains-iff sets v).0 there;
  turned_away = λ is. cc ((range_contains-iff others v).1 is, not_there);
}

gap-contained_beyond : ContainsBeyond one_to_two one_or_two (least_of 2 0 0)
gap-contained_beyond = contained-by one_to_two one_or_two (least_of 2 0 0) refl refl

-- ---- `^1.2.3-rc.4` and `>=1.0.0-0`

abbrev candidate : VersionValue
candidate = record (release 1 2 3) { pre_release = alphanumeric (codes "rc") ∷ numeric 4 ∷ [] }

abbrev caret : List (Ends VersionValue)
caret = span_between (Before candidate) (Before (least_of 2 0 0)) ∷ []

abbrev covering : List (Ends VersionValue)
covering = at_least (least_of 1 0 0) ∷ []

covered-least : IsLeastBeyond caret covering candidate
covered-least = record {
  wanted = beyond-by caret covering candidate refl refl;
  none_below = λ v beyond below. elim beyond.admitted [
    | inl here ↦ (before-floor candidate).none_below v here.inside.lower (version-Less v candidate below)
    | inr nowhere ↦ nowhere
  ];
}

-- ---- others

abbrev tagged : List IdentifierValue → VersionValue
tagged identifiers = record (release 1 0 0) { pre_release = alphanumeric (codes "a") ∷ identifiers }

-- `1.0.1-0` of `<1.0.1-beta` beyond `<=1.0.0`
abbrev below_beta : List (Ends VersionValue)
below_beta =
    span_between Start (Before (record (release 1 0 1) { pre_release = alphanumeric (codes "beta") ∷ [] })) ∷ []

abbrev up_to_one : List (Ends VersionValue)
up_to_one = span_between Start (After (release 1 0 0)) ∷ []

opened-beyond : AdmitsBeyond below_beta up_to_one (least_of 1 0 1)
opened-beyond = beyond-by below_beta up_to_one (least_of 1 0 1) refl refl

-- `1.0.0-a.0`, and not `1.0.0-a`, of `>=1.0.0-a <1.0.0` beyond `1.0.0-a`
abbrev from_tagged : List (Ends VersionValue)
from_tagged = span_between (Before (tagged [])) (Before (release 1 0 0)) ∷ []

abbrev only_tagged : List (Ends VersionValue)
only_tagged = span_between (Before (tagged [])) (After (tagged [])) ∷ []

next-beyond : AdmitsBeyond from_tagged only_tagged (tagged (numeric 0 ∷ []))
next-beyond = beyond-by from_tagged only_tagged (tagged (numeric 0 ∷ [])) refl refl

same-not_beyond : ¬ AdmitsBeyond from_tagged only_tagged (tagged [])
same-not_beyond = admitted-too from_tagged only_tagged (tagged []) refl

-- `2.0.1`, and neither `2.0.0` nor `2.0.1-0`, of `>=1` beyond `1 || 2.0.0`
abbrev from_one : List (Ends VersionValue)
from_one = at_least (release 1 0 0) ∷ []

abbrev one_and_a_version : List (Ends VersionValue)
one_and_a_version = span_between (Before (release 1 0 0)) (Before (least_of 2 0 0))
    ∷ span_between (Before (release 2 0 0)) (After (release 2 0 0)) ∷ []

patch-beyond : AdmitsBeyond from_one one_and_a_version (release 2 0 1)
patch-beyond = beyond-by from_one one_and_a_version (release 2 0 1) refl refl

version-not_beyond : ¬ AdmitsBeyond from_one one_and_a_version (release 2 0 0)
version-not_beyond = admitted-too from_one one_and_a_version (release 2 0 0) refl

least-not_beyond : ¬ AdmitsBeyond from_one one_and_a_version (least_of 2 0 1)
least-not_beyond = not-admitted from_one one_and_a_version (least_of 2 0 1) refl

-- ---- the greatest of 1.0.0, 1.2.3+a, 1.2.3+b and 2.0.0 that `^1` admits is the second

abbrev built : List ℕ → VersionValue
built text = record (release 1 2 3) { build = alphanumeric text ∷ [] }

abbrev caret_one : List (Ends VersionValue)
caret_one = span_between (Before (release 1 0 0)) (Before (least_of 2 0 0)) ∷ []

second-greatest : IsGreatestAdmitted caret_one
    (release 1 0 0 ∷ built (codes "a") ∷ built (codes "b") ∷ release 2 0 0 ∷ []) (built (codes "a"))
second-greatest = record {
  before = release 1 0 0 ∷ [];
  after = built (codes "b") ∷ release 2 0 0 ∷ [];
  parts = refl;
  admitted = (range_admits-iff caret_one (built (codes "a"))).0 refl;
  none_better = (
    λ _ below. cc (version-Less (built (codes "a")) (release 1 0 0) below),
    (
      λ _ below. cc (version-Less (built (codes "a")) (built (codes "a")) below),
      (
        λ _ below. cc (version-Less (built (codes "a")) (built (codes "b")) below),
        (λ admits. cc ((range_admits-iff caret_one (release 2 0 0)).1 admits), tt),
      ),
    ),
  );
  none_same = (λ _ same. cc same.triple.minor, tt);
}

-- Worked examples: the versions that two ranges both admit, and the versions that a range contains.
use Rattle.std.proofs.Common.{◌≡◌, List, [], ◌∷◌, codes, true, false, refl, inl, inr}
use Rattle.semver_cuts.specs.declared.cut.Cut.TheVariants.{Start, Before}
use Rattle.semver_cuts.specs.Ends.{Ends, span_between}
use Rattle.semver_sets.specs.Comparator.{at_least}
use Rattle.semver_sets.specs.Meaning.{RangeContains}
use Rattle.semver_texts.specs.IdentifierValue.{alphanumeric, numeric}
use Rattle.semver_texts.specs.Lemmas.Public.{none-below_first, version-Less}
use Rattle.semver_texts.specs.Version.{VersionValue, least_of, release}
use Rattle.node_semver.specs.Least.{BothAdmit, IsLeastCommon, IsLeastContained}
use Rattle.node_semver.proofs.Least.BeyondAnswers.{range_admits, range_admits-iff, range_contains-iff}
use Rattle.node_semver.proofs.Least.LeastLemmas.{before-floor}

-- ---- by computing

both-by : (sets others : List (Ends VersionValue)) (v : VersionValue) → range_admits sets v ≡ true
    → range_admits others v ≡ true → BothAdmit sets others v
both-by sets others v first second = record {
  one = (range_admits-iff sets v).0 first;
  other = (range_admits-iff others v).0 second;
}

not-both : (sets others : List (Ends VersionValue)) (v : VersionValue) → range_admits others v ≡ false
    → ¬ BothAdmit sets others v
not-both sets others v fails both = cc ((range_admits-iff others v).1 both.other, fails)

-- ---- `^2.0.0-rc.1` and `>=1.5`

abbrev candidate : VersionValue
candidate = record (release 2 0 0) { pre_release = alphanumeric (codes "rc") ∷ numeric 4 ∷ [] }

abbrev caret : List (Ends VersionValue)
caret = span_between (Before (record (release 2 0 0) { pre_release = alphanumeric (codes "rc") ∷ numeric 1 ∷ [] }))
    (Before (least_of 3 0 0)) ∷ []

abbrev from_one_five : List (Ends VersionValue)
from_one_five = at_least (release 1 5 0) ∷ []

release-common : BothAdmit caret from_one_five (release 2 0 0)
release-common = both-by caret from_one_five (release 2 0 0) refl refl

-- the second contains 2.0.0-rc.4, and does not admit it
candidate-contained : RangeContains from_one_five candidate
candidate-contained = inl (record { lower = inl refl; upper = refl })

candidate-not_common : ¬ BothAdmit caret from_one_five candidate
candidate-not_common = not-both caret from_one_five candidate refl

-- ---- the least version of `^2` and `>=1.5` is 2.0.0

abbrev caret_two : List (Ends VersionValue)
caret_two = span_between (Before (release 2 0 0)) (Before (least_of 3 0 0)) ∷ []

two-least : IsLeastCommon caret_two from_one_five (release 2 0 0)
two-least = record {
  wanted = both-by caret_two from_one_five (release 2 0 0) refl refl;
  none_below = λ v both below. elim both.one [
    | inl here ↦ (before-floor (release 2 0 0)).none_below v here.inside.lower (version-Less v (release 2 0 0) below)
    | inr nowhere ↦ nowhere
  ];
}

-- ---- `>=1.2.3-rc.4 <2.0.0` contains 1.2.4-rc.6, and does not contain 2.0.0

abbrev opened : List (Ends VersionValue)
opened = span_between (Before (record (release 1 2 3) { pre_release = alphanumeric (codes "rc") ∷ numeric 4 ∷ [] }))
    (Before (release 2 0 0)) ∷ []

abbrev other_candidate : VersionValue
other_candidate = record (release 1 2 4) { pre_release = alphanumeric (codes "rc") ∷ numeric 6 ∷ [] }

prerelease-contained : RangeContains opened other_candidate
prerelease-contained = inl (record { lower = inl refl; upper = refl })

end-not_contained : ¬ RangeContains opened (release 2 0 0)
end-not_contained (inl here) = cc here.upper
end-not_contained (inr nowhere) = nowhere

-- the least version that `<1.0.0` contains is 0.0.0-0
abbrev below_one : List (Ends VersionValue)
below_one = span_between Start (Before (release 1 0 0)) ∷ []

first-contained : IsLeastContained below_one (least_of 0 0 0)
first-contained = record {
  wanted = (range_contains-iff below_one (least_of 0 0 0)).0 refl;
  none_below = λ v contained below. none-below_first v below;
}

-- Worked examples: the greatest numbers of a range text, and that the ends of ranges go no further than these take
-- them.
use Rattle.std.proofs.Common.{◌≡◌, ℕ, ◌+◌, ◌≤◌, List, [], ◌∷◌, ◌++◌, codes, refl}
use Rattle.std.specs.Fmt.{decimal, digits}
use Rattle.semver_cuts.specs.declared.cut.Cut.TheVariants.{Before}
use Rattle.semver_cuts.specs.Ends.{Ends}
use Rattle.semver_texts.specs.declared.TheConstants.{MAX_SAFE_INTEGER}
use Rattle.semver_sets.specs.Comparator.{with_major}
use Rattle.semver_sets.specs.Merging.{AreSetsOfText}
use Rattle.semver_sets.specs.RangeSets.{IsRangeEnd}
use Rattle.semver_texts.specs.Version.{VersionValue, least_of}
use Rattle.semver_sets.proofs.Examples.SetComputing.{merged-by, sets_in}

-- the greatest number that a text may write, as it is written
abbrev greatest : List ℕ
greatest = decimal MAX_SAFE_INTEGER

-- one set, which ends before a version that has this number
pub record EndsAt (text : List ℕ) (number : VersionValue → ℕ) (n : ℕ) : Type 0 where
  pub set : Ends VersionValue
  pub version : VersionValue
  pub written : AreSetsOfText text (set ∷ [])
  pub upper : set.upper ≡ Before version
  pub has : number version ≡ n

-- each version that a range can have at an end has a number of at most where the text ends
abbrev pub IsReachedBy : List ℕ → (VersionValue → ℕ) → Type 0
IsReachedBy text number = (v : VersionValue) → IsRangeEnd v → (n : ℕ) × EndsAt text number n × (number v ≤ n)

-- `^9007199254740991`
pub major-reached : IsReachedBy (codes "^" ++ greatest) (λ v. v.major)
unfolding sets_in digits
major-reached v is = (
  MAX_SAFE_INTEGER + 1,
  record {
    set = with_major MAX_SAFE_INTEGER;
    version = least_of (MAX_SAFE_INTEGER + 1) 0 0;
    written = merged-by _ _ refl;
    upper = refl;
    has = refl;
  },
  is.major,
)

-- one more is no number of a range text: the word is ignored
pub major-beyond : AreSetsOfText (codes "^" ++ decimal (MAX_SAFE_INTEGER + 1)) []
unfolding sets_in digits
major-beyond = merged-by _ _ refl

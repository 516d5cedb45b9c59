-- The intervals of a range: which keys lie in them, and how they stand to each other.
use Rattle.std.specs.Prelude.{◌≡◌, ◌↔◌, ◌⊎◌, ◌≤◌, ◌*◌, ℕ, Bool, not, List, [], ◌∷◌, true, false, filter, length}
use Rattle.semver_cuts.specs.SpanLists.{AnyByRecursion}
use Rattle.semver_texts.specs.Version.{IsPrerelease, VersionValue}
use Rattle.semver_keys.specs.KeyOrder.{IsKeyAtMost, IsKeyBelow}
use Rattle.semver_keys.specs.VersionKey.{HasWords, version_key}

-- the keys from `lower` up to but not including `upper`, and which versions are meant
pub record IntervalValue : Type 0 where
  pub lower : List ℕ
  pub upper : List ℕ
  pub prereleases : Bool

-- the key lies in the interval
pub record IsKeyIn (key : List ℕ) (interval : IntervalValue) : Type 0 where
  pub lower : IsKeyAtMost interval.lower key
  pub upper : IsKeyBelow key interval.upper

-- the key lies in one of the intervals for prereleases (`true`) or for releases (`false`)
abbrev pub IsKeyInSome : Bool → List IntervalValue → List ℕ → Type 0
IsKeyInSome prereleases intervals key =
    AnyByRecursion (λ (i : IntervalValue). (i.prereleases ≡ prereleases) × IsKeyIn key i) intervals

-- a version is wanted exactly if its key lies in an interval of its kind: that of a release in one for releases, and that
-- of a prerelease in one for prereleases
pub record AreIntervalsOf (Wanted : VersionValue → Type 0) (intervals : List IntervalValue) : Type 0 where
  pub releases : (v : VersionValue) → HasWords v → ¬ IsPrerelease v
      → Wanted v ↔ IsKeyInSome false intervals (version_key v)
  pub prereleases : (v : VersionValue) → HasWords v → IsPrerelease v
      → Wanted v ↔ IsKeyInSome true intervals (version_key v)

-- a version is wanted exactly if its key lies in an interval. The intervals are for versions of both kinds
abbrev pub AreIntervalsOfBoth : (VersionValue → Type 0) → List IntervalValue → Type 0
AreIntervalsOfBoth Wanted intervals =
    (v : VersionValue) → HasWords v → Wanted v ↔ IsKeyInSome true intervals (version_key v)

-- the first of two intervals ends below where the second begins, or it is for releases and the second for prereleases
abbrev pub IsIntervalBefore : IntervalValue → IntervalValue → Type 0
IsIntervalBefore one other = ((one.prereleases ≡ other.prereleases) × IsKeyBelow one.upper other.lower)
    ⊎ ((one.prereleases ≡ false) × (other.prereleases ≡ true))

-- Each interval begins below where it ends. Those for releases come first, those of each kind ascend, and no two of them
-- touch
abbrev pub AreInOrder : List IntervalValue → Type 0
AreInOrder [] = Unit {0}
AreInOrder (i ∷ []) = IsKeyBelow i.lower i.upper
AreInOrder (i ∷ j ∷ is) = IsKeyBelow i.lower i.upper × IsIntervalBefore i j × AreInOrder (j ∷ is)

-- in order, at most one for releases for each set of the range, and at most two for prereleases
pub record AreFew (sets : ℕ) (intervals : List IntervalValue) : Type 0 where
  pub order : AreInOrder intervals
  pub releases : length (filter (λ (i : IntervalValue). not i.prereleases) intervals) ≤ sets
  pub prereleases : length (filter (λ (i : IntervalValue). i.prereleases) intervals) ≤ 2 * sets

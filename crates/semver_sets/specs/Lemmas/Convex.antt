-- Which ends open the triple of a prerelease: all between one that does and the prerelease.
use native.Mathlib.Omega.{arith}
use Rattle.std.proofs.Common.{◌≡◌, ◌⊎◌, inl, Ordering, Less, Equal, Greater}
use Rattle.std.specs.Ordering.{ordering_then}
use Rattle.semver_cuts.specs.declared.cut.Cut.{Cut}
use Rattle.semver_cuts.specs.declared.cut.Cut.TheVariants.{Start, Before, After, End}
use Rattle.semver_cuts.specs.Ends.{IsCutAtMost, IsCutBelow}
use Rattle.semver_texts.specs.Comparison.{version_cmp}
use Rattle.semver_sets.specs.Meaning.{Opens}
use Rattle.semver_texts.specs.Order.{IsBelow, IsSame}
use Rattle.semver_texts.specs.Lemmas.Public.{Equal-version, Less-version, prerelease-below, triple-back}
use Rattle.semver_texts.specs.Lemmas.Public.{triple-between}
use Rattle.semver_texts.specs.Version.{HasSameTriple, IsPrerelease, VersionValue}

pub from-cmp : (v w : VersionValue) → (version_cmp v w ≡ Less) ⊎ (version_cmp v w ≡ Equal) → IsBelow v w ⊎ IsSame v w
from-cmp v w h1 = grind (arith, Less-version, Equal-version)

-- a cut that is first by its value, whatever its side, has a value at most the other's
pub by-value : (r s : Ordering) → (ordering_then r s ≡ Less) ⊎ (ordering_then r s ≡ Equal) → (r ≡ Less) ⊎ (r ≡ Equal)
by-value r s h1 = grind arith

module _ (v : VersionValue) (p q : VersionValue) where
  -- between one that opens the triple and the version itself
  opened-lower : IsPrerelease v → IsPrerelease p × HasSameTriple p v → IsBelow p q ⊎ IsSame p q
      → IsBelow q v ⊎ IsSame q v → IsPrerelease q × HasSameTriple q v
  opened-lower pre opens h k = grind (arith, triple-between, prerelease-below)

  -- between the version itself and one that opens the triple
  opened-upper : IsPrerelease p × HasSameTriple p v → IsBelow v q ⊎ IsSame v q → IsBelow q p ⊎ IsSame q p
      → IsPrerelease q × HasSameTriple q v
  opened-upper opens h k = grind (arith, triple-between, triple-back, prerelease-below)

-- less or equal is not greater
never-greater : {X : Type 0} → (Greater ≡ Less) ⊎ (Greater ≡ Equal) → X
never-greater h1 = grind arith

module _ (v : VersionValue) where
  -- a cut between one that opens the triple of a prerelease and the prerelease opens it too
  pub convex-lower : (c d : Cut VersionValue) → IsPrerelease v → Opens c v → IsCutAtMost version_cmp c d
      → IsCutAtMost version_cmp d (Before v) → Opens d v
  convex-lower Start d pre opens h k = absurd opens
  convex-lower End d pre opens h k = absurd opens
  convex-lower (Before p) Start pre opens h k = never-greater h
  convex-lower (Before p) (Before q) pre opens h k = opened-lower v p q pre opens (from-cmp p q h) (from-cmp q v k)
  convex-lower (Before p) (After q) pre opens h k =
      grind (
        arith,
        opened-lower v p q pre,
        from-cmp p q (by-value (version_cmp p q) Less h),
        from-cmp q v (by-value (version_cmp q v) Greater k),
      )
  convex-lower (Before p) End pre opens h k = never-greater k
  convex-lower (After p) Start pre opens h k = never-greater h
  convex-lower (After p) (Before q) pre opens h k =
      opened-lower v p q pre opens (from-cmp p q (by-value (version_cmp p q) Greater h)) (from-cmp q v k)
  convex-lower (After p) (After q) pre opens h k =
      opened-lower v p q pre opens (from-cmp p q h) (from-cmp q v (by-value (version_cmp q v) Greater k))
  convex-lower (After p) End pre opens h k = never-greater k

  -- and one between the prerelease and a cut that opens its triple
  pub convex-upper : (c d : Cut VersionValue) → Opens c v → IsCutBelow version_cmp (Before v) d
      → IsCutAtMost version_cmp d c → Opens d v
  convex-upper Start d opens h k = absurd opens
  convex-upper End d opens h k = absurd opens
  convex-upper (Before p) Start opens h k = cc h
  convex-upper (Before p) (Before q) opens h k = opened-upper v p q opens (from-cmp v q (inl h)) (from-cmp q p k)
  convex-upper (Before p) (After q) opens h k =
      grind (
        arith,
        opened-upper v p q,
        from-cmp v q (by-value (version_cmp v q) Less (inl h)),
        from-cmp q p (by-value (version_cmp q p) Greater k),
      )
  convex-upper (Before p) End opens h k = never-greater k
  convex-upper (After p) Start opens h k = cc h
  convex-upper (After p) (Before q) opens h k =
      opened-upper v p q opens (from-cmp v q (inl h)) (from-cmp q p (by-value (version_cmp q p) Less k))
  convex-upper (After p) (After q) opens h k =
      opened-upper v p q opens (from-cmp v q (by-value (version_cmp v q) Less (inl h))) (from-cmp q p k)
  convex-upper (After p) End opens h k = never-greater k

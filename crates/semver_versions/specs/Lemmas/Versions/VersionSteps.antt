-- The least version, and from each version the next one, between which lies none.
use Rattle.std.proofs.Common.{◌≡◌, ◌≢◌, ◌<◌, ◌+◌, ◌^◌, lit<, List, []}
use Rattle.std.proofs.Common.{◌∷◌, ◌++◌, refl, arith, Less}
use Rattle.std.specs.Cmp.Lexicographic.{slice_cmp}
use Rattle.std.specs.List.{AllByRecursion}
use Rattle.semver_cuts.specs.Steps.{IsLeast, IsNext}
use Rattle.semver_texts.specs.Comparison.{identifier_cmp, version_cmp}
use Rattle.semver_texts.specs.IdentifierValue.{IdentifierValue, numeric}
use Rattle.semver_texts.specs.Order.{IsBelow, IsIdentifierBelow, by_patch}
use Rattle.semver_texts.specs.Version.{HasSameTriple, IsPrerelease, VersionValue, least_of}
use Rattle.semver_texts.specs.Lemmas.Versions.Least.{none-below_first, none-below_least, none-below_zeros}
use Rattle.semver_texts.specs.Lemmas.Versions.Between.{prerelease-below, triple-between}
use Rattle.semver_texts.specs.Lemmas.Order.{Less-version, identifier-Less, identifier_total, list-Less}
use Rattle.semver_texts.specs.Lemmas.Order.{ends-Less, then-cases, version-Less}
use Rattle.semver_versions.specs.VersionSteps.{IsIdentifier, IsVersion, next_version, with_zero}

-- ---- lists of identifiers

-- a list is below itself with a 0 more
pub zero-above : (xs : List IdentifierValue) → slice_cmp identifier_cmp xs (xs ++ numeric 0 ∷ []) ≡ Less
zero-above xs = ends-Less identifier_cmp identifier_total xs (numeric 0) []

-- and no list lies between the two
pub none-before_zero : (xs ys : List IdentifierValue) → slice_cmp identifier_cmp xs ys ≡ Less
    → ¬ (slice_cmp identifier_cmp ys (xs ++ numeric 0 ∷ []) ≡ Less)
none-before_zero [] [] e f = cc e
none-before_zero [] (y ∷ ys) e f = none-below_zeros y ys f
none-before_zero (x ∷ xs) [] e f = cc e
none-before_zero (x ∷ xs) (y ∷ ys) e f = grind (arith, none-before_zero xs ys, then-cases, slice_cmp, identifier_total)

-- ---- versions of one triple

-- a version below another of its triple is a prerelease
pub prerelease-from_below : (v w : VersionValue) → HasSameTriple v w → IsBelow v w → IsPrerelease v
prerelease-from_below v w t h4 = grind arith

-- prereleases of one triple go by their lists
lists-below : (v w : VersionValue) → HasSameTriple v w → IsBelow v w → IsPrerelease w
    → slice_cmp identifier_cmp v.pre_release w.pre_release ≡ Less
lists-below v w t below pre =
    grind (arith, list-Less identifier_cmp identifier_total IsIdentifierBelow identifier-Less v.pre_release)

-- ---- after a release

pub patch-above : (v : VersionValue) → IsBelow v (least_of v.major v.minor (v.patch + 1))
patch-above v = by_patch refl refl (omega arith)

pub none-between_patches : (v w : VersionValue) → ¬ IsPrerelease v → IsBelow v w
    → ¬ IsBelow w (least_of v.major v.minor (v.patch + 1))
none-between_patches v w release above below =
    grind (arith, prerelease-from_below v w, none-below_least w v.major v.minor (v.patch + 1))

-- ---- after a prerelease

with_zero-prerelease : (v : VersionValue) → IsPrerelease (with_zero v)
with_zero-prerelease v = longer v.pre_release
  where
    longer : (xs : List IdentifierValue) → xs ++ numeric 0 ∷ [] ≢ []
    longer [] e = cc e
    longer (x ∷ xs) e = cc e

pub with_zero-above : (v : VersionValue) → IsPrerelease v → IsBelow v (with_zero v)
with_zero-above v pre = grind (arith, with_zero-prerelease)

pub none-between_zeros : (v w : VersionValue) → IsPrerelease v → IsBelow v w → ¬ IsBelow w (with_zero v)
none-between_zeros v w pre above below =
    grind (
      arith,
      triple-between v w (with_zero v),
      prerelease-below w (with_zero v),
      with_zero-prerelease v,
      none-before_zero v.pre_release w.pre_release,
      lists-below v w,
      lists-below w (with_zero v),
    )

-- ---- the next version of any version

-- the next version is above
pub next-above : (v : VersionValue) → IsBelow v (next_version v)
next-above v = grind arith

-- and none lies between
pub none-before_next : (v w : VersionValue) → IsBelow v w → ¬ IsBelow w (next_version v)
none-before_next v w above below = grind (arith, none-between_patches v w, none-between_zeros v w)

-- ---- what the fields of a version can hold

abbrev AreIdentifiers : List IdentifierValue → Type 0
AreIdentifiers identifiers = AllByRecursion IsIdentifier identifiers

identifiers-zero : (xs : List IdentifierValue) → AreIdentifiers xs → AreIdentifiers (xs ++ numeric 0 ∷ [])
identifiers-zero [] all = (lit< tt, tt)
identifiers-zero (x ∷ xs) all = (all.0, identifiers-zero xs all.1)

pub first-least : IsLeast version_cmp IsVersion (least_of 0 0 0)
first-least = record {
  value = record { major = lit< tt; minor = lit< tt; patch = lit< tt; pre_release = (lit< tt, tt); build = tt };
  none_below = λ w _ e. none-below_first w (Less-version w (least_of 0 0 0) e);
}

-- a value above, and none lies between
pub next-next : (v : VersionValue) → IsVersion (next_version v) → IsNext version_cmp IsVersion v (next_version v)
next-next v value = record {
  value = value;
  above = version-Less v (next_version v) (next-above v);
  none_between = λ w _ above below.
      none-before_next v w (Less-version v w above) (Less-version w (next_version v) below);
}

-- after a prerelease
pub zero-next : (v next : VersionValue) → IsPrerelease v → next ≡ with_zero v → IsVersion v
    → IsNext version_cmp IsVersion v next
zero-next v next pre is value = grind (arith, next-next v, identifiers-zero v.pre_release)

-- after a release
pub patch-next : (v next : VersionValue) → ¬ IsPrerelease v → next ≡ least_of v.major v.minor (v.patch + 1)
    → v.patch + 1 < 2 ^ 64 → IsVersion v → IsNext version_cmp IsVersion v next
patch-next v next release is fits value = grind (arith, next-next v)

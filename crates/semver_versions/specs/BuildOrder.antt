-- The order of versions with their builds: npm's README, `compareBuild`. SemVer 2.0.0, section 11, orders no builds. It
-- is
-- defined twice, as the order of precedence is: as a function, and in words.
use Rattle.std.specs.Prelude.{◌≡◌, ◌↔◌, List}
use Rattle.std.specs.Ordering.{on, then_cmp}
use Rattle.std.specs.Cmp.Lexicographic.{slice_cmp}
use Rattle.std.specs.declared.cmp.Ordering.{Ordering}
use Rattle.std.specs.declared.cmp.Ordering.TheVariants.{Less, Equal, Greater}
use Rattle.semver_texts.specs.IdentifierValue.{IdentifierValue}
use Rattle.semver_texts.specs.Version.{VersionValue}
use Rattle.semver_texts.specs.Comparison.{identifier_cmp, version_cmp}
use Rattle.semver_texts.specs.Order.{IsBelow, IsIdentifierBelow, IsListBelow, IsSame}

-- identifier by identifier; no identifiers are less than some
abbrev pub build_cmp : List IdentifierValue → List IdentifierValue → Ordering
build_cmp = slice_cmp identifier_cmp

-- the order of precedence, and then the build
abbrev pub version_build_cmp : VersionValue → VersionValue → Ordering
version_build_cmp = then_cmp version_cmp (on (λ (v : VersionValue). v.build) build_cmp)

-- v is below w in the order with builds
pub data IsBelowWithBuild (v w : VersionValue) : Type 0 where
  -- `1.0.0+9` is below `1.0.1`
  by_precedence : IsBelow v w → IsBelowWithBuild v w
  -- `1.0.0` is below `1.0.0+1`, which is below `1.0.0+1.a`, which is below `1.0.0+2`
  by_build : IsSame v w → IsListBelow IsIdentifierBelow v.build w.build → IsBelowWithBuild v w

-- the result of a comparison: `Equal` exactly if all five fields are equal
pub record BuildOrderMeans (v w : VersionValue) (ordering : Ordering) : Type 0 where
  pub below : (ordering ≡ Less) ↔ IsBelowWithBuild v w
  pub same : (ordering ≡ Equal) ↔ (v ≡ w)
  pub above : (ordering ≡ Greater) ↔ IsBelowWithBuild w v

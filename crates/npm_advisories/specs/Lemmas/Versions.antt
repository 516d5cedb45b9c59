-- Versions: their order, and those that were read.
use Rattle.std.proofs.Common.{◌≡◌, ◌↔◌, ℕ, List, arith, inl, inr, refl}
use Rattle.std.specs.Prelude.{◌⊎◌}
use Rattle.std.specs.declared.cmp.Ordering.{Ordering}
use Rattle.std.specs.declared.cmp.Ordering.TheVariants.{Less, Equal, Greater}
use Rattle.std.specs.Ordering.{ordering_then}
use Rattle.semver_cuts.specs.Ends.{span_between}
use Rattle.semver_cuts.specs.declared.cut.Cut.TheVariants.{After, Start}
use Rattle.semver_texts.specs.Lemmas.Public.{Equal-version, Greater-turned, Less-version}
use Rattle.semver_texts.specs.Lemmas.Public.{version-Equal, version-Less, version_total}
use Rattle.semver_texts.specs.Lemmas.Public.{build-read, prerelease-read}
use Rattle.node_semver.specs.Ranges.{IsInside, IsRangeEnd}
use Rattle.node_semver.specs.Versions.{IsBelow, IsVersionText, OrderMeans, VersionValue, version_cmp}

-- the order that is computed is that of SemVer
pub cmp-means : (v w : VersionValue) → OrderMeans v w (version_cmp v w)
cmp-means v w = record {
  below = (Less-version v w, version-Less v w);
  same = (Equal-version v w, version-Equal v w);
  above = (
    λ e. Less-version w v ((Greater-turned version_total v w).0 e),
    λ h. (Greater-turned version_total v w).1 (version-Less w v h),
  );
}

not-above : (o : Ordering) (v w : VersionValue) → OrderMeans v w o → ¬ IsBelow w v → ordering_then o Less ≡ Less
not-above Less v w means not = refl
not-above Equal v w means not = refl
not-above Greater v w means not = absurd (not (means.above.0 refl))

not-up-to : (o : Ordering) (v w : VersionValue) → OrderMeans v w o → ordering_then o Less ≡ Less → ¬ IsBelow w v
not-up-to Less v w means is = λ below. let e : Less ≡ Greater = means.above.1 below in absurd (cc)
not-up-to Equal v w means is = λ below. let e : Equal ≡ Greater = means.above.1 below in absurd (cc)
not-up-to Greater v w means is = absurd (cc)

-- the span up to a version has the versions that are not above it
pub up-to : (w v : VersionValue) → IsInside v (span_between Start (After w)) ↔ (¬ IsBelow w v)
up-to w v = (
  λ inside. not-up-to (version_cmp v w) v w (cmp-means v w) inside.upper,
  λ not. record { lower = inl refl; upper = not-above (version_cmp v w) v w (cmp-means v w) not },
)

-- a version is below another or it is not
below-by : (o : Ordering) (w v : VersionValue) → OrderMeans w v o → IsBelow w v ⊎ (¬ IsBelow w v)
below-by Less w v means = inl (means.below.0 refl)
below-by Equal w v means = inr (λ below. let e : Equal ≡ Less = means.below.1 below in absurd (cc))
below-by Greater w v means = inr (λ below. let e : Greater ≡ Less = means.below.1 below in absurd (cc))

pub below-or_not : (w v : VersionValue) → IsBelow w v ⊎ (¬ IsBelow w v)
below-or_not w v = below-by (version_cmp w v) w v (cmp-means w v)

-- a version that was read can be the end of a range
pub version-end : (text : List ℕ) (v : VersionValue) → IsVersionText text v → IsRangeEnd v
version-end text v is =
    let parts = is.fields.read in record {
      major = omega (arith, parts.major_text.limit);
      minor = omega (arith, parts.minor_text.limit);
      patch = omega (arith, parts.patch_text.limit);
      pre_release = prerelease-read _ _ parts.extras_text.first;
      build = build-read _ _ parts.extras_text.second;
    }

-- The order with builds is total, and its function agrees with its relation.
use Rattle.std.proofs.Common.{arith}
use Rattle.std.proofs.Common.{◌≡◌, refl, sym, subst, ◌∙◌}
use Rattle.std.specs.Ordering.{ordering_then}
use Rattle.std.specs.Cmp.{IsTotalOrder, on_total, then_total, tied_itself}
use Rattle.std.specs.Cmp.Lexicographic.{lists_total}
use Rattle.std.specs.FinMap.{slice_cmp-IsAntisymmetric}
use Rattle.std.specs.declared.cmp.Ordering.{Ordering}
use Rattle.std.specs.declared.cmp.Ordering.TheVariants.{Less, Equal, Greater}
use Rattle.semver_texts.specs.Version.{VersionValue}
use Rattle.semver_texts.specs.Comparison.{identifier_cmp, version_cmp}
use Rattle.semver_texts.specs.Order.{IsIdentifierBelow, IsSame}
use Rattle.semver_versions.specs.BuildOrder.{build_cmp, version_build_cmp, BuildOrderMeans}
use Rattle.semver_versions.specs.BuildOrder.{IsBelowWithBuild, by_build, by_precedence}
use Rattle.semver_texts.specs.Lemmas.Order.{Equal-version, Greater-turned, Less-identifier, Less-list}
use Rattle.semver_texts.specs.Lemmas.Order.{Less-version, identifier-IsAntisymmetric, identifier-Less}
use Rattle.semver_texts.specs.Lemmas.Order.{identifier_total, list-Less, then-Less, then-first, then-second}
use Rattle.semver_texts.specs.Lemmas.Order.{then-tied, version-Equal, version-Less, version_total}

pub version_build_total : IsTotalOrder version_build_cmp
version_build_total = then_total version_total (on_total (λ (v : VersionValue). v.build) (lists_total identifier_total))

Less-build : (v w : VersionValue) → (r : Ordering) → version_cmp v w ≡ r
    → ordering_then r (build_cmp v.build w.build) ≡ Less → IsBelowWithBuild v w
Less-build v w Less p e = by_precedence (Less-version v w p)
Less-build v w Equal p e = by_build (Equal-version v w p)
    (Less-list identifier_cmp IsIdentifierBelow Less-identifier identifier-IsAntisymmetric v.build w.build e)
Less-build v w Greater p e = cc e

build-Less : (v w : VersionValue) → IsBelowWithBuild v w → version_build_cmp v w ≡ Less
build-Less v w (by_precedence b) = then-Less _ _ (version-Less v w b)
build-Less v w (by_build s b) = then-tied _ _ (version-Equal v w s)
    ∙ list-Less identifier_cmp identifier_total IsIdentifierBelow identifier-Less v.build w.build b

-- versions that tie have the same fields
all-fields : (v w : VersionValue) → IsSame v w → v.build ≡ w.build → v ≡ w
all-fields v w s b = grind arith

Equal-build : (v w : VersionValue) → version_build_cmp v w ≡ Equal → v ≡ w
Equal-build v w e = all-fields v w (Equal-version v w (then-first _ _ e))
    (slice_cmp-IsAntisymmetric identifier-IsAntisymmetric v.build w.build (then-second (version_cmp v w) _ e))

-- `version_build_cmp` agrees with the relations
pub version_build_cmp-means : (v w : VersionValue) → BuildOrderMeans v w (version_build_cmp v w)
version_build_cmp-means v w = record {
  below = (Less-build v w (version_cmp v w) refl, build-Less v w);
  same = (Equal-build v w, λ e. cc (e, tied_itself version_build_total v));
  above = (
    λ e. Less-build w v (version_cmp w v) refl ((Greater-turned version_build_total v w).0 e),
    λ h. (Greater-turned version_build_total v w).1 (build-Less w v h),
  );
}

-- what the order with builds means, for a function that returns it
pub version_build_order : (v w : VersionValue) (r : Ordering) → r ≡ version_build_cmp v w → BuildOrderMeans v w r
version_build_order v w r e = subst (BuildOrderMeans v w) (sym e) (version_build_cmp-means v w)

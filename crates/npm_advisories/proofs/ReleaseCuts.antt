-- Releases beside versions and cuts.
use Rattle.std.proofs.Common.{◌≡◌, ◌≢◌, ◌↔◌, ◌∙◌, ◌+◌, ◌<◌, ◌⊎◌, [], arith, inl, inr, refl}
use Rattle.std.proofs.Common.{sym, subst}
use Rattle.std.specs.declared.cmp.Ordering.{Ordering}
use Rattle.std.specs.declared.cmp.Ordering.TheVariants.{Less, Equal, Greater}
use Rattle.semver_cuts.specs.Ends.{IsCutAtMost, IsCutBelow}
use Rattle.semver_cuts.specs.Lemmas.Ends.{at_most-or-below, at_most_trans, below-not-at_most, below_irrefl}
use Rattle.semver_cuts.specs.Lemmas.Ends.{below_trans}
use Rattle.semver_texts.specs.Lemmas.Public.{Less-version, version-Less, version_total}
use Rattle.node_semver.specs.Cuts.{After, Before, End, Start}
use Rattle.node_semver.specs.Versions.{HasSameTriple, IsBelow, IsPlain, IsPrerelease, IsSame, OrderMeans, VersionValue}
use Rattle.node_semver.specs.Versions.{release, version_cmp}
use Rattle.semver_texts.specs.Order.{before_release, by_identifiers, by_major, by_minor, by_patch}
use Rattle.npm_advisories.specs.Private.Covering.{IsAlignedTo, IsReleaseAbove}
use Rattle.npm_advisories.specs.Lemmas.Versions.{below-or_not, cmp-means, up-to}

-- a version without prerelease and build is the release with its numbers
pub plain-same : (v : VersionValue) → IsPlain v → release v.major v.minor v.patch ≡ v
plain-same v is = grind (arith, is.pre_release, is.build)

-- ---- the order

pub below-cut : (v w : VersionValue) → IsBelow v w ↔ IsCutBelow version_cmp (Before v) (Before w)
below-cut v w = (version-Less v w, Less-version v w)

-- one of three
three-by : (o : Ordering) (v w : VersionValue) → OrderMeans v w o → IsBelow v w ⊎ (IsSame v w ⊎ IsBelow w v)
three-by Less v w means = inl (means.below.0 refl)
three-by Equal v w means = inr (inl (means.same.0 refl))
three-by Greater v w means = inr (inr (means.above.0 refl))

three : (v w : VersionValue) → IsBelow v w ⊎ (IsSame v w ⊎ IsBelow w v)
three v w = three-by (version_cmp v w) v w (cmp-means v w)

pub not-back : (v w : VersionValue) → IsBelow v w → ¬ IsBelow w v
not-back v w below back = below_irrefl version_total (Before v)
    (below_trans version_total (Before v) (Before w) (Before v) ((below-cut v w).0 below) ((below-cut w v).0 back))

pub not-self : (v : VersionValue) → ¬ IsBelow v v
not-self v below = not-back v v below below

-- what is not below a release is reached by the cut before it
pub reached-cut : (v w : VersionValue) → ¬ IsBelow v w → IsCutAtMost version_cmp (Before w) (Before v)
reached-cut v w not = elim (at_most-or-below version_total (Before w) (Before v)) [
  | inl most ↦ most
  | inr less ↦ absurd (not ((below-cut v w).1 less))
]

-- a version that is not below a second, which is not below a third, is not below the third
pub not-below_trans : (u v w : VersionValue) → ¬ IsBelow u v → ¬ IsBelow v w → ¬ IsBelow u w
not-below_trans u v w first second below =
    below-not-at_most version_total (Before u) (Before w) ((below-cut u w).0 below)
    (at_most_trans version_total (Before w) (Before v) (Before u) (reached-cut v w second) (reached-cut u v first))

-- ---- the release of a triple

-- a release is below the versions of a triple together
pub below-triple : (v w x : VersionValue) → ¬ IsPrerelease v → HasSameTriple w x → IsBelow v w → IsBelow v x
below-triple v w x release same (by_major h) = by_major (subst (λ n. v.major < n) same.major h)
below-triple v w x release same (by_minor a h) = by_minor (a ∙ same.major) (subst (λ n. v.minor < n) same.minor h)
below-triple v w x release same (by_patch a b h) =
    by_patch (a ∙ same.major) (b ∙ same.minor) (subst (λ n. v.patch < n) same.patch h)
below-triple v w x release same (before_release t pre other) = absurd (release pre)
below-triple v w x release same (by_identifiers t pre other below) = absurd (release pre)

module _ (w : VersionValue) where
  abbrev own : VersionValue
  own = release w.major w.minor w.patch

  to-own : HasSameTriple w own
  to-own = record { major = refl; minor = refl; patch = refl }

  of-own : HasSameTriple own w
  of-own = record { major = refl; minor = refl; patch = refl }

  pub own-plain : IsPlain own
  own-plain = record { pre_release = refl; build = refl }

  pub aligned-before : IsAlignedTo (Before w) (Before own)
  aligned-before = record {
    is = own-plain;
    same = λ v release. (
      λ below. (below-cut v w).0 (below-triple v own w release of-own ((below-cut v own).1 below)),
      λ below. (below-cut v own).0 (below-triple v w own release to-own ((below-cut v w).1 below)),
    );
  }

  -- the release of a prerelease is the least above it
  pub above-prerelease : IsPrerelease w → IsReleaseAbove w own
  above-prerelease pre = record {
    plain = own-plain;
    least = λ v release. (
      λ above below. not-back w v above (below-triple v own w release of-own below),
      λ not. elim (three w v) [
        | inl above ↦ above
        | inr rest ↦ elim rest [
          | inl same ↦ absurd (release (subst (λ l. l ≢ []) same.pre_release pre))
          | inr less ↦ absurd (not (below-triple v w own release to-own less))
        ]
      ],
    );
  }

  abbrev next : VersionValue
  next = release w.major w.minor (w.patch + 1)

  next-from : (v : VersionValue) → ¬ IsPrerelease w → ¬ IsPrerelease v → IsBelow w v → ¬ IsBelow v next
  next-from v one other above below = grind arith

  to-next : (v : VersionValue) → ¬ IsPrerelease v → IsBelow v w → IsBelow v next
  to-next v release (by_major h) = by_major h
  to-next v release (by_minor a h) = by_minor a h
  to-next v release (by_patch a b h) = by_patch a b (omega arith)
  to-next v release (before_release t pre other) = absurd (release pre)
  to-next v release (by_identifiers t pre other below) = absurd (release pre)

  -- and of a release the one with the next patch
  pub above-release : ¬ IsPrerelease w → IsReleaseAbove w next
  above-release one = record {
    plain = record { pre_release = refl; build = refl };
    least = λ v release. (
      next-from v one release,
      λ not. elim (three w v) [
        | inl above ↦ above
        | inr rest ↦ elim rest [
          | inl same ↦ absurd (not (by_patch (sym same.triple.major) (sym same.triple.minor)
              (let e : w.patch ≡ v.patch = same.triple.patch in omega arith)))
          | inr less ↦ absurd (not (to-next v release less))
        ]
      ],
    );
  }

-- ---- the cut after a version

pub aligned-after : (w next : VersionValue) → IsReleaseAbove w next → IsAlignedTo (After w) (Before next)
aligned-after w next is = record {
  is = is.plain;
  same = λ v release. (
    λ below. ((up-to w v).1 (λ above. (is.least v release).0 above ((below-cut v next).1 below))).upper,
    λ below. elim (below-or_not v next) [
      | inl less ↦ (below-cut v next).0 less
      | inr not ↦ absurd ((up-to w v).0 (record { lower = inl refl; upper = below }) ((is.least v release).1 not))
    ],
  );
}

pub aligned-start : IsAlignedTo Start Start
aligned-start = record { is = tt; same = λ v release. (λ is. is, λ is. is) }

pub aligned-end : IsAlignedTo End End
aligned-end = record { is = tt; same = λ v release. (λ is. is, λ is. is) }

-- A prerelease satisfies a range exactly if the cut before it lies in the part of a set that an end opens.
use Rattle.std.proofs.Common.{◌≡◌, ◌≢◌, ◌⊎◌, ◌↔◌, List, [], ◌∷◌, refl, sym, inl, inr}
use Rattle.std.specs.List.{flat_map}
use Rattle.std.specs.declared.cmp.Ordering.{Ordering}
use Rattle.std.specs.declared.cmp.Ordering.TheVariants.{Less, Equal, Greater}
use Rattle.semver_cuts.specs.declared.cut.Cut.{Cut}
use Rattle.semver_cuts.specs.declared.cut.Cut.TheVariants.{Start, Before, After, End}
use Rattle.semver_cuts.specs.Ends.{Ends, IsInSpan}
use Rattle.semver_cuts.specs.SpanLists.{IsInSome}
use Rattle.semver_cuts.specs.Lemmas.Lists.{any-either, any-flat_map, any-left, any-map, any-right, flat_map-any}
use Rattle.semver_cuts.specs.Lemmas.TwoSpans.{common_of-cuts}
use Rattle.semver_texts.specs.Comparison.{version_cmp}
use Rattle.semver_texts.specs.IdentifierValue.{IdentifierValue}
use Rattle.semver_texts.specs.Lemmas.Public.{Equal-version, Greater-turned, Less-version, none-below_least}
use Rattle.semver_texts.specs.Lemmas.Public.{triple-between, version-Less, version_total}
use Rattle.semver_texts.specs.Order.{IsBelow, IsSame, before_release}
use Rattle.semver_texts.specs.Version.{HasSameTriple, IsPrerelease, VersionValue, least_of, release}
use Rattle.semver_sets.specs.Meaning.{IsInside, Opens, RangeAdmits, SetAdmits}
use Rattle.semver_keys.specs.Private.Opened.{parts_at, parts_for, parts_of, prereleases_of}

-- ---- the prereleases of a triple

-- a comparison that is not greater
not_greater : (v w : VersionValue) (o : Ordering) → version_cmp v w ≡ o → ¬ IsBelow w v
    → (version_cmp v w ≡ Less) ⊎ (version_cmp v w ≡ Equal)
not_greater v w Less e h = inl e
not_greater v w Equal e h = inr e
not_greater v w Greater e h = absurd (h (Less-version w v ((Greater-turned version_total v w).0 e)))

at_least : (v w : VersionValue) → (version_cmp v w ≡ Less) ⊎ (version_cmp v w ≡ Equal) → IsBelow v w ⊎ IsSame v w
at_least v w (inl less) = inl (Less-version v w less)
at_least v w (inr same) = inr (Equal-version v w same)

-- a prerelease lies among those of a triple exactly if it has this triple
pub prereleases-are : (p v : VersionValue) → IsPrerelease v
    → IsInSpan version_cmp (prereleases_of p) (Before v) ↔ HasSameTriple p v
prereleases-are p v pre = (
  λ is.
      let low = at_least (least_of p.major p.minor p.patch) v is.lower in
      let high : IsBelow v (release p.major p.minor p.patch) = Less-version v (release p.major p.minor p.patch) is.upper in
      let same : HasSameTriple v (release p.major p.minor p.patch) =
      triple-between (least_of p.major p.minor p.patch) v (release p.major p.minor p.patch) low (inl high)
      (record { major = refl; minor = refl; patch = refl }) in
      record { major = sym same.major; minor = sym same.minor; patch = sym same.patch },
  λ same.
      let back : HasSameTriple v (release p.major p.minor p.patch) =
      record { major = sym same.major; minor = sym same.minor; patch = sym same.patch } in
      record {
        lower = not_greater (least_of p.major p.minor p.patch) v _ refl (none-below_least v p.major p.minor p.patch
            (record { major = sym same.major; minor = sym same.minor; patch = sym same.patch }));
        upper = version-Less v (release p.major p.minor p.patch) (before_release back pre (λ some. some refl));
      },
)

-- ---- the part at an end

none-for : (set : Ends VersionValue) (p v : VersionValue) → ¬ IsInSome version_cmp (parts_for set p []) (Before v)
unfolding parts_for
none-for set p v is = is

some-for : (set : Ends VersionValue) (p v : VersionValue) (x : IdentifierValue) (xs : List IdentifierValue)
    → IsPrerelease v → IsInSome version_cmp (parts_for set p (x ∷ xs)) (Before v) ↔ (IsInside v set × HasSameTriple p v)
unfolding parts_for
some-for set p v x xs pre =
    let cuts = common_of-cuts version_total set (prereleases_of p) (Before v) in
    let are = prereleases-are p v pre in
    (λ is. ((cuts.0 is).0, are.0 (cuts.0 is).1), λ both. cuts.1 (both.0, are.1 both.1))

for-end : (set : Ends VersionValue) (p v : VersionValue) (xs : List IdentifierValue) → IsPrerelease v
    → IsInSome version_cmp (parts_for set p xs) (Before v) ↔ (IsInside v set × ((xs ≢ []) × HasSameTriple p v))
for-end set p v [] pre = (λ is. absurd (none-for set p v is), λ both. absurd (both.1.0 refl))
for-end set p v (x ∷ xs) pre =
    let for = some-for set p v x xs pre in
    (λ is. ((for.0 is).0, ((λ e. cc e), (for.0 is).1)), λ both. for.1 (both.0, both.1.1))

at-cut : (set : Ends VersionValue) (c : Cut VersionValue) (v : VersionValue) → IsPrerelease v
    → IsInSome version_cmp (parts_at set c) (Before v) ↔ (IsInside v set × Opens c v)
at-cut set Start v pre = (λ is. absurd is, λ both. absurd both.1)
at-cut set (Before p) v pre = for-end set p v p.pre_release pre
at-cut set (After p) v pre = for-end set p v p.pre_release pre
at-cut set End v pre = (λ is. absurd is, λ both. absurd both.1)

-- ---- the parts of a set, and of all sets

of-set : (set : Ends VersionValue) (v : VersionValue) → IsPrerelease v
    → IsInSome version_cmp (parts_of set) (Before v) ↔ SetAdmits set v
of-set set v pre =
    let lower = at-cut set set.lower v pre in
    let upper = at-cut set set.upper v pre in
    let Has = λ (span : Ends VersionValue). IsInSpan version_cmp span (Before v) in (
      λ is. elim (any-either Has (parts_at set set.lower) (parts_at set set.upper) is) [
        | inl here ↦ record { inside = (lower.0 here).0; opened = λ h. inl (lower.0 here).1 }
        | inr there ↦ record { inside = (upper.0 there).0; opened = λ h. inr (upper.0 there).1 }
      ],
      λ admits. elim (admits.opened pre) [
        | inl opens ↦ any-left Has (parts_at set set.lower) (parts_at set set.upper) (lower.1 (admits.inside, opens))
        | inr opens ↦ any-right Has (parts_at set set.lower) (parts_at set set.upper) (upper.1 (admits.inside, opens))
      ],
    )

pub prerelease-admitted : (sets : List (Ends VersionValue)) (v : VersionValue) → IsPrerelease v
    → RangeAdmits sets v ↔ IsInSome version_cmp (flat_map parts_of sets) (Before v)
prerelease-admitted sets v pre =
    let Has = λ (span : Ends VersionValue). IsInSpan version_cmp span (Before v) in (
      λ admits. flat_map-any parts_of Has sets (any-map _ _ (λ set is. (of-set set v pre).1 is) sets admits),
      λ is. any-map _ _ (λ set is. (of-set set v pre).0 is) sets (any-flat_map parts_of Has sets is),
    )

-- a release satisfies a range exactly if the cut before it lies in a set
pub release-admitted : (sets : List (Ends VersionValue)) (v : VersionValue) → ¬ IsPrerelease v
    → RangeAdmits sets v ↔ IsInSome version_cmp sets (Before v)
release-admitted sets v plain = (
  λ admits. any-map _ _ (λ set is. is.inside) sets admits,
  λ is. any-map _ _ (λ set inside. record { inside = inside; opened = λ pre. absurd (plain pre) }) sets is,
)

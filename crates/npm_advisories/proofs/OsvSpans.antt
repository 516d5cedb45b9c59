-- Spans of the versions that an element of `affected` is about.
use Rattle.std.proofs.Common.{◌≡◌, ◌↔◌, ◌∙◌, ◌∷◌, [], ℕ, List, Option, Some, None, IfSome, IsNone, IsSome, inl}
use Rattle.std.proofs.Common.{inr, refl, subst, sym}
use Rattle.semver_cuts.specs.Ends.{Ends, IsCutBelow, span_between}
use Rattle.semver_cuts.specs.declared.cut.Cut.TheVariants.{After, Before}
use Rattle.semver_texts.specs.Lemmas.Public.{Equal-version, Less-version, version-Equal, version-Less}
use Rattle.std.specs.declared.cmp.Ordering.TheVariants.{Less, Equal}
use Rattle.node_semver.specs.Ranges.{AnyByRecursion, IsInside, IsRangeEnd, IsRangeValue}
use Rattle.node_semver.specs.Versions.{IsBelow, IsSame, VersionValue, version_cmp}
use Rattle.npm_advisories.specs.Advisories.{Affected, Affects}
use Rattle.npm_advisories.specs.OsvRanges.{IsTextOfSame}
use Rattle.npm_advisories.specs.Index.{IsRangeOf}
use Rattle.npm_advisories.specs.Lemmas.Spans.{Have}
use Rattle.npm_advisories.specs.Lemmas.Versions.{up-to}
use Rattle.npm_advisories.specs.ReadVersions.{IsReadAs}

-- the range of such spans; none if there is no span
pub range-of : (affected : Affected) (spans : List (Ends VersionValue)) (answer : Option (List (Ends VersionValue)))
    → Have spans (Affects affected) → IfSome answer (λ range. range ≡ spans) → (IsSome answer ↔ IsRangeValue spans)
    → (IsNone answer ↔ (¬ IsRangeValue spans)) → IsRangeOf affected answer
range-of affected spans (Some range) have same some none = record {
  means = λ v. rw same (have.exact v);
  holds = rw same (some.0 refl);
}
range-of affected [] None have same some none = record { means = have.exact; holds = tt }
range-of affected (span ∷ spans) None have same some none =
    absurd (none.0 refl (record { some = λ is. absurd (cc); each = have.each }))

-- ---- one version

module _ (w v : VersionValue) where
  -- the span of a version has those equal to it
  inside-same : IsInside v (span_between (Before w) (After w)) → IsSame w v
  inside-same inside = elim inside.lower [
    | inl less ↦ absurd ((up-to w v).0 (record { lower = inl refl; upper = inside.upper }) (Less-version w v less))
    | inr equal ↦ Equal-version w v equal
  ]

  not-less : IsSame w v → ¬ IsBelow w v
  not-less same below = let e : Less ≡ Equal = sym (version-Less w v below) ∙ version-Equal w v same in absurd (cc)

  same-inside : IsSame w v → IsInside v (span_between (Before w) (After w))
  same-inside same = record { lower = inr (version-Equal w v same); upper = ((up-to w v).1 (not-less same)).upper }

module _ (w : VersionValue) where
  same-self : IsSame w w
  same-self = record { triple = record { major = refl; minor = refl; patch = refl }; pre_release = refl }

  -- the cut before a version is below the cut after it
  pub before-after : IsCutBelow version_cmp (Before w) (After w)
  before-after = (same-inside w w same-self).upper

-- of a text that is read as a version and as nothing else
pub have-version : (text : List ℕ) (w : VersionValue) → IsReadAs text (Some w)
    → ((v : Option VersionValue) → IsReadAs text v → v ≡ Some w) → IsRangeEnd w
    → Have (span_between (Before w) (After w) ∷ []) (λ v. AnyByRecursion (λ t. IsTextOfSame t v) (text ∷ []))
have-version text w is only end = record {
  each = (
    record { holds = (Before w, same-inside w w (same-self w)); lower = end; upper = end },
    tt,
  );
  exact = λ v. (
    λ contains. elim contains [
      | inl inside ↦ inl (record { listed = w; read = is; same = inside-same w v inside })
      | inr none ↦ absurd none
    ],
    λ some. elim some [
      | inl here ↦
          let same : here.listed ≡ w = let e = only (Some here.listed) here.read in cc e in
          inl (same-inside w v (subst (λ x. IsSame x v) same here.same))
      | inr none ↦ absurd none
    ],
  );
}

-- a text that is read as no version has none
pub have-other : (text : List ℕ) → ((v : Option VersionValue) → IsReadAs text v → v ≡ None)
    → Have [] (λ v. AnyByRecursion (λ t. IsTextOfSame t v) (text ∷ []))
have-other text other = record {
  each = tt;
  exact = λ v. (
    λ is. absurd is,
    λ some. elim some [
      | inl here ↦ let e = other (Some here.listed) here.read in absurd (cc e)
      | inr none ↦ absurd none
    ],
  );
}

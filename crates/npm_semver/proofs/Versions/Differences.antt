-- By which bump a version and its bumped version differ.
use Rattle.std.proofs.Common.{◌≡◌, ◌≢◌, ◌∙◌, ◌+◌, ℕ, zero, suc, List, [], ◌∷◌, ◌++◌, Option, Some, None}
use Rattle.std.proofs.Common.{◌⊎◌, ap, arith, inl, inr, refl, subst, sym}
use native.Mathlib.Numerals.{unary_clauses}
use Rattle.std.proofs.lemmas.Bool.Decides.{nat_tests}
use Rattle.std.specs.declared.cmp.Ordering.{Ordering}
use Rattle.std.specs.declared.cmp.Ordering.TheVariants.{Less, Equal, Greater}
use Rattle.semver_texts.specs.Comparison.{version_cmp}
use Rattle.semver_texts.specs.IdentifierValue.{IdentifierValue, numeric}
use Rattle.semver_texts.specs.Lemmas.Public.{Equal-version, Greater-turned, Less-version, triple-back}
use Rattle.semver_texts.specs.Lemmas.Public.{version-Less, version_total}
use Rattle.semver_texts.specs.Order.{IsBelow, before_release}
use Rattle.semver_texts.specs.Version.{HasSameTriple, IsPrerelease, VersionValue}
use Rattle.npm_semver.specs.Bump.{HasBeginning, IsBumped, IsNext, IsNextOf, IsRaised, IsUpward}
use Rattle.npm_semver.specs.Bump.{base_identifiers}
use Rattle.npm_semver.specs.BumpBetween.{bump_up, by_numbers, by_order, first_of, to_prerelease}
use Rattle.npm_semver.specs.BumpLaws.{DifferBy, NamesNumber, difference_after}
use Rattle.npm_semver.specs.declared.bump.Bump.{Bump}
use Rattle.npm_semver.specs.declared.bump.Bump.TheVariants.{Major, Minor, Patch, Pre}
use Rattle.npm_semver.specs.declared.bump.Bump.TheVariants.{PreMajor, PreMinor, PrePatch, PreRelease}
use Rattle.npm_semver.specs.declared.bump.IdentifierBase.{IdentifierBase}
use Rattle.npm_semver.proofs.Versions.Upward.{above-version, same-triple}

-- ---- the lower version and the higher one

-- the bump is told whichever is first
differ-up : (bump : Bump) (low high : VersionValue) → IsBelow low high
    → bump_up low.pre_release high.pre_release low high ≡ bump → DifferBy bump low high
differ-up bump low high below is = record {
  one_first = ap (λ (o : Ordering). by_order o low high) (version-Less low high below) ∙ ap Some is;
  other_first =
      ap (λ (o : Ordering). by_order o high low) ((Greater-turned version_total high low).1 (version-Less low high below))
      ∙ ap Some is;
}

differ-turned : (bump : Bump) (v w : VersionValue) → DifferBy bump w v → DifferBy bump v w
differ-turned bump v w h = record { one_first = h.other_first; other_first = h.one_first }

-- ---- the first number that differs

module _ {A : Type 0} (major minor patch same : A) (v w : VersionValue) where
  first-major : w.major ≡ v.major + 1 → first_of major minor patch same v w ≡ major
  first-major h = grind (arith, nat_tests)

  first-minor : w.major ≡ v.major → w.minor ≡ v.minor + 1 → first_of major minor patch same v w ≡ minor
  first-minor h1 h2 = grind (arith, nat_tests)

  first-patch : w.major ≡ v.major → w.minor ≡ v.minor → w.patch ≡ v.patch + 1
      → first_of major minor patch same v w ≡ patch
  first-patch h1 h2 h3 = grind (arith, nat_tests)

  first-none : HasSameTriple v w → first_of major minor patch same v w ≡ same
  first-none h = grind (arith, nat_tests)

-- ---- the bumps to a release

by-zeros : (minor patch : ℕ) → by_numbers minor patch 0 0 ≡ Major
by-zeros zero zero = refl
by-zeros zero (suc patch) = refl
by-zeros (suc minor) zero = refl
by-zeros (suc minor) (suc patch) = refl

-- from a prerelease to its release, or to the next minor
minor-numbers : (minor patch next : ℕ) (x : IdentifierValue) (pre : List IdentifierValue)
    → (patch ≡ 0 → next ≡ minor) → (patch ≢ 0 → next ≡ minor + 1)
    → by_numbers minor patch next 0 ≡ difference_after Minor (x ∷ pre) minor patch
minor-numbers minor zero next x pre same more = ap (λ (n : ℕ). by_numbers minor 0 n 0) (same refl) ∙ at-zero minor
  where
    at-zero : (minor : ℕ) → by_numbers minor 0 minor 0 ≡ difference_after Minor (x ∷ pre) minor 0
    at-zero zero = refl
    at-zero (suc minor) = refl
minor-numbers minor (suc patch) next x pre same more =
    ap (λ (n : ℕ). by_numbers minor (suc patch) n 0) (more (λ e. cc e)) ∙ past minor
  where
    past : (minor : ℕ) → by_numbers minor (suc patch) (minor + 1) 0 ≡ difference_after Minor (x ∷ pre) minor (suc patch)
    past zero = refl
    past (suc minor) = simp unary_clauses refl

patch-numbers : (minor patch : ℕ) (x : IdentifierValue) (pre : List IdentifierValue)
    → by_numbers minor patch minor patch ≡ difference_after Patch (x ∷ pre) minor patch
patch-numbers zero zero x pre = refl
patch-numbers zero (suc patch) x pre = refl
patch-numbers (suc minor) zero x pre = refl
patch-numbers (suc minor) (suc patch) x pre = refl

-- ---- what is told of a version with this prerelease and its bumped version

abbrev pub IsTold : Bump → (pre : List IdentifierValue) → VersionValue → VersionValue → Type 0
IsTold bump pre v w = bump_up pre w.pre_release v w ≡ difference_after bump pre v.minor v.patch

module _ (identifier : Option IdentifierValue) (base : IdentifierBase) (v w : VersionValue) where
  major-told : (pre : List IdentifierValue) → v.pre_release ≡ pre → IsBumped Major identifier base v w
      → IsTold Major pre v w
  major-told [] is bumped = grind (arith, first-major)
  major-told (x ∷ pre) is bumped = grind (arith, by-zeros)

  minor-told : (pre : List IdentifierValue) → v.pre_release ≡ pre → IsBumped Minor identifier base v w
      → IsTold Minor pre v w
  minor-told [] is bumped = grind (arith, first-minor)
  minor-told (x ∷ pre) is bumped = grind (arith, minor-numbers v.minor v.patch w.minor x pre)

  patch-told : (pre : List IdentifierValue) → v.pre_release ≡ pre → IsBumped Patch identifier base v w
      → IsTold Patch pre v w
  patch-told [] is bumped = grind (arith, first-patch)
  patch-told (x ∷ pre) is bumped = grind (arith, patch-numbers v.minor v.patch x pre)

  -- a version that is no release is told by its first number that differs
  prerelease-told : (later pre : List IdentifierValue) → w.pre_release ≡ later → later ≢ []
      → bump_up pre w.pre_release v w ≡ to_prerelease v w
  prerelease-told [] pre is some = absurd (some refl)
  prerelease-told (y ∷ later) pre is some = grind arith

  new-told : (bump : Bump) (pre : List IdentifierValue) → IsBumped bump identifier base v w
      → bump ≡ PreMajor ⊎ bump ≡ PreMinor ⊎ bump ≡ PrePatch → IsTold bump pre v w
  new-told bump pre bumped kind =
      grind (arith, prerelease-told w.pre_release pre refl, first-major, first-minor, first-patch)

-- ---- downwards

-- the first prereleases of a release are below it
release-below : (v w : VersionValue) → v.pre_release ≡ [] → w.pre_release ≢ [] → HasSameTriple w v → IsBelow w v
release-below v w release pre same = before_release same pre (λ some. some release)

to-own : (v w : VersionValue) (pre none : List IdentifierValue) → pre ≢ [] → none ≡ [] → HasSameTriple w v
    → bump_up pre none w v ≡ by_numbers v.minor v.patch v.minor v.patch
to-own v w [] none some is same = absurd (some refl)
to-own v w (x ∷ pre) none some is same =
    ap (λ (l : List IdentifierValue). bump_up (x ∷ pre) l w v) is
    ∙ ap (λ (n : ℕ). by_numbers n w.patch v.minor v.patch) same.minor
    ∙ ap (λ (n : ℕ). by_numbers v.minor n v.minor v.patch) same.patch

-- what is added to identifiers that stay the same is nothing
added-none : (one more : List IdentifierValue) → one ++ more ≡ one → more ≡ []
added-none [] more same = same
added-none (x ∷ one) more same = added-none one more (cc same)

-- a list with its last number raised is another one
raised-other : (number : ℕ) (before after : List IdentifierValue)
    → before ++ (numeric (number + 1) ∷ after) ≢ before ++ (numeric number ∷ after)
raised-other number [] after same = let e : number + 1 ≡ number = cc same in omega (arith, e)
raised-other number (x ∷ before) after same = raised-other number before after (cc same)

is-raised_other : (one other : List IdentifierValue) → IsRaised one other → other ≢ one
is-raised_other one other r same = raised-other r.number r.before r.after (sym r.raised ∙ same ∙ r.split.whole)

-- a prerelease and its next one are not the same
next-other : (identifier : Option IdentifierValue) (base : IdentifierBase) (one other : List IdentifierValue)
    → HasBeginning identifier base → IsNext identifier base one other → other ≢ one
next-other None base one other some (inl raised) = is-raised_other one other raised
next-other None base one other some (inr new) = λ same. some (added-none one (base_identifiers base) (sym new.1 ∙ same))
next-other (Some i) base one other some (inl raised) = is-raised_other one other raised.1
next-other (Some i) base one other some (inr new) = new.2

middle-some : (before after : List IdentifierValue) (i : IdentifierValue) → before ++ (i ∷ after) ≢ []
middle-some [] after i same = cc same
middle-some (x ∷ before) after i same = cc same

-- the next one of a prerelease is one
next-some : (identifier : Option IdentifierValue) (base : IdentifierBase) (x : IdentifierValue)
    (one other : List IdentifierValue) → IsNext identifier base (x ∷ one) other → other ≢ []
next-some None base x one other (inl r) same = middle-some r.before r.after (numeric (r.number + 1)) (sym r.raised ∙ same)
next-some None base x one other (inr new) same = cc (sym new.1 ∙ same)
next-some (Some i) base x one other (inl raised) same =
    middle-some raised.1.before raised.1.after (numeric (raised.1.number + 1)) (sym raised.1.raised ∙ same)
next-some (Some i) base x one other (inr new) same = cc (sym new.1 ∙ same)

-- a prerelease and another one of its triple, whichever is lower
module _ (v w : VersionValue) (triple : HasSameTriple v w) (pre : IsPrerelease v) (later : IsPrerelease w)
    (other : w.pre_release ≢ v.pre_release) where
  told-prerelease : (low high : VersionValue) (x y : List IdentifierValue) → HasSameTriple low high → y ≢ []
      → bump_up x y low high ≡ PreRelease
  told-prerelease low high x [] same some = absurd (some refl)
  told-prerelease low high x (i ∷ y) same some = first-none PreMajor PreMinor PrePatch PreRelease low high same

  told-other : (o : Ordering) → version_cmp v w ≡ o → DifferBy PreRelease v w
  told-other Less is =
      differ-up PreRelease v w (Less-version v w is) (told-prerelease v w v.pre_release w.pre_release triple later)
  told-other Equal is = absurd (other (sym (Equal-version v w is).pre_release))
  told-other Greater is =
      let turned = triple-back v w triple in
      let below = Less-version w v ((Greater-turned version_total v w).0 is) in
      differ-turned PreRelease v w
      (differ-up PreRelease w v below (told-prerelease w v w.pre_release v.pre_release turned pre))

-- ---- all bumps

module _ (identifier : Option IdentifierValue) (base : IdentifierBase) (v w : VersionValue) where
  -- a bump that never leads to a lower version
  upward-differs : (bump : Bump) → IsUpward bump identifier → IsBumped bump identifier base v w
      → IsTold bump v.pre_release v w → DifferBy (difference_after bump v.pre_release v.minor v.patch) v w
  upward-differs bump up bumped told =
      differ-up (difference_after bump v.pre_release v.minor v.patch) v w
      (above-version bump identifier base v w up bumped) told

  -- a prerelease and its next one
  next-differs : (x : IdentifierValue) (pre : List IdentifierValue) → v.pre_release ≡ x ∷ pre → HasSameTriple v w
      → IsNextOf identifier base v.pre_release w.pre_release → DifferBy PreRelease v w
  next-differs x pre is triple next =
      let after : IsNextOf identifier base (x ∷ pre) w.pre_release =
      subst (λ (l : List IdentifierValue). IsNextOf identifier base l w.pre_release) is next in
      let other = next-other identifier base (x ∷ pre) w.pre_release after.0 after.1 in
      let differ : w.pre_release ≢ v.pre_release = λ same. other (same ∙ is) in
      let own : IsPrerelease v = λ none. cc (sym is ∙ none) in
      told-other v w triple own (next-some identifier base x pre w.pre_release after.1) differ (version_cmp v w) refl

  prerelease-differs : (pre : List IdentifierValue) → v.pre_release ≡ pre → IsBumped PreRelease identifier base v w
      → DifferBy (difference_after PreRelease pre v.minor v.patch) v w
  prerelease-differs [] release bumped = elim bumped.triple [
    | inl its ↦ absurd (its.0 release)
    | inr next ↦
        let new : IsNextOf identifier base [] w.pre_release =
        subst (λ (l : List IdentifierValue). IsNextOf identifier base l w.pre_release) release bumped.pre_release in
        let same : IsBumped PrePatch identifier base v w =
        record { triple = next.1; limits = bumped.limits; pre_release = new; build = bumped.build } in
        upward-differs PrePatch tt same (new-told identifier base v w PrePatch v.pre_release same (inr (inr refl)))
  ]
  prerelease-differs (x ∷ pre) is bumped = elim bumped.triple [
    | inl its ↦ next-differs x pre is (same-triple v w its.1.0 its.1.1 its.1.2) bumped.pre_release
    | inr next ↦ absurd (next.0 (λ none. cc (sym is ∙ none)))
  ]

  pre-differs : (pre : List IdentifierValue) → v.pre_release ≡ pre → IsBumped Pre identifier base v w
      → DifferBy (difference_after Pre pre v.minor v.patch) v w
  pre-differs [] release bumped =
      let t = bumped.triple in
      let new : IsNextOf identifier base [] w.pre_release =
      subst (λ (l : List IdentifierValue). IsNextOf identifier base l w.pre_release) release bumped.pre_release in
      let some : w.pre_release ≢ [] = λ none. new.0 (sym new.1 ∙ none) in
      let same = triple-back v w (same-triple v w t.0 t.1 t.2) in
      differ-turned (by_numbers v.minor v.patch v.minor v.patch) v w
      (differ-up (by_numbers v.minor v.patch v.minor v.patch) w v (release-below v w release some same)
      (to-own v w w.pre_release v.pre_release some release same))
  pre-differs (x ∷ pre) is bumped =
      let t = bumped.triple in
      next-differs x pre is (same-triple v w t.0 t.1 t.2) bumped.pre_release

  pub differs : (bump : Bump) → IsBumped bump identifier base v w
      → DifferBy (difference_after bump v.pre_release v.minor v.patch) v w
  differs Major bumped = upward-differs Major tt bumped (major-told identifier base v w v.pre_release refl bumped)
  differs Minor bumped = upward-differs Minor tt bumped (minor-told identifier base v w v.pre_release refl bumped)
  differs Patch bumped = upward-differs Patch tt bumped (patch-told identifier base v w v.pre_release refl bumped)
  differs PreMajor bumped =
      upward-differs PreMajor tt bumped (new-told identifier base v w PreMajor v.pre_release bumped (inl refl))
  differs PreMinor bumped =
      upward-differs PreMinor tt bumped (new-told identifier base v w PreMinor v.pre_release bumped (inr (inl refl)))
  differs PrePatch bumped =
      upward-differs PrePatch tt bumped (new-told identifier base v w PrePatch v.pre_release bumped (inr (inr refl)))
  differs PreRelease bumped = prerelease-differs v.pre_release refl bumped
  differs Pre bumped = pre-differs v.pre_release refl bumped

  -- a release and its bumped version
  pub release-differs : (bump : Bump) → NamesNumber bump → v.pre_release ≡ [] → IsBumped bump identifier base v w
      → DifferBy bump v w
  release-differs bump names release bumped =
      subst (λ (b : Bump). DifferBy b v w)
      (ap (λ (l : List IdentifierValue). difference_after bump l v.minor v.patch) release ∙ itself bump names)
      (differs bump bumped)
    where
      itself : (bump : Bump) → NamesNumber bump → difference_after bump [] v.minor v.patch ≡ bump
      itself Major names = refl
      itself Minor names = refl
      itself Patch names = refl
      itself PreMajor names = refl
      itself PreMinor names = refl
      itself PrePatch names = refl
      itself PreRelease names = absurd names
      itself Pre names = absurd names

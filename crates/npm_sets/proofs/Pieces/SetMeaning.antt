-- The sets of alternatives: what they hold, and what they admit.
use Rattle.std.proofs.Common.{◌≢◌, ◌↔◌, ℕ, Bool, true, false, List, [], ◌∷◌}
use Rattle.std.proofs.Common.{arith, inl, inr, subst}
use Rattle.std.specs.List.{AllByRecursion}
use Rattle.semver_cuts.specs.declared.cut.Cut.TheVariants.{Before}
use Rattle.semver_cuts.specs.Ends.{Ends}
use Rattle.semver_cuts.specs.Lemmas.Lists.{all_middle}
use Rattle.semver_texts.specs.Lemmas.Public.{Less-version, none-below_first}
use Rattle.semver_texts.specs.Version.{VersionValue, least_of}
use Rattle.semver_sets.specs.Comparator.{Comparator}
use Rattle.semver_sets.specs.Lemmas.Merging.{inside-set, merged-admits, merged-gives}
use Rattle.semver_sets.specs.Meaning.{AnyByRecursion, GiveSet, IsInside}
use Rattle.semver_sets.specs.Merging.{AreSetsOf, IsSetOf, no_more, none, one_more}
use Rattle.semver_sets.specs.RangeSets.{IsRangeSet, IsRangeValue}
use Rattle.semver_sets.specs.Lemmas.Comparators.{IsReadEnds}
use Rattle.npm_sets.specs.NpmMeaning.{AreNpmSets, NpmAdmit, NpmSetAdmits, NpmSetsAdmit, NpmTextAdmits}
use Rattle.npm_sets.specs.NpmMeaning.{alternatives_of}
use Rattle.npm_sets.specs.Rows.{no_versions}
use Rattle.npm_sets.specs.declared.options.NpmOptions.{NpmOptions}
use Rattle.npm_sets.proofs.Pieces.EndBounds.{zero-read}

-- ---- what the sets hold

-- all comparators of an alternative have ends that a range can have
abbrev pub AreReadAlternative : List Comparator → Type 0
AreReadAlternative comparators = AllByRecursion IsReadEnds comparators

set-bounded : (comparators : List Comparator) (set : Ends VersionValue) → GiveSet comparators
    → IsSetOf comparators set → AreReadAlternative comparators → IsRangeSet set
set-bounded comparators set gives is read =
    grind (
      arith,
      all_middle IsReadEnds is.lower.before is.lower.after is.lower.span
          (subst (AllByRecursion IsReadEnds) is.lower.parts read),
      all_middle IsReadEnds is.upper.before is.upper.after is.upper.span
          (subst (AllByRecursion IsReadEnds) is.upper.parts read),
      merged-gives comparators set is,
    )

pub sets-bounded : (alternatives : List (List Comparator)) (sets : List (Ends VersionValue))
    → AreSetsOf alternatives sets → AllByRecursion AreReadAlternative alternatives → AllByRecursion IsRangeSet sets
sets-bounded [] [] none all = tt
sets-bounded [] (s ∷ sets) are all = elim are [ ]
sets-bounded (a ∷ alternatives) (s ∷ sets) (one_more _ _ _ _ gives is more) all =
    (set-bounded a s gives is all.0, sets-bounded alternatives sets more all.1)
sets-bounded (a ∷ alternatives) sets (no_more _ _ _ nothing more) all = sets-bounded alternatives sets more all.1

-- `<0.0.0-0` holds a cut
pub no_versions-bounded : IsRangeValue (no_versions ∷ [])
no_versions-bounded = grind (arith, zero-read)

-- ---- what the sets admit

-- no version lies below the least one
none-inside : (v : VersionValue) → ¬ IsInside v no_versions
none-inside v inside = none-below_first v (Less-version v (least_of 0 0 0) inside.upper)

-- what a set admits lies inside it
inside-of : (pre : Bool) (set : Ends VersionValue) (v : VersionValue) → NpmSetAdmits pre set v → IsInside v set
inside-of pre set v h1 = grind arith

gives-from : (pre : Bool) (v : VersionValue) (comparators : List Comparator) → NpmAdmit pre comparators v
    → GiveSet comparators
gives-from pre v comparators admit = record { some = admit.some; common = (Before v, admit.inside) }

-- a set admits what its comparators do
one-admits : (pre : Bool) (v : VersionValue) (comparators : List Comparator) (set : Ends VersionValue)
    → comparators ≢ [] → IsSetOf comparators set → NpmSetAdmits pre set v ↔ NpmAdmit pre comparators v
one-admits false v comparators set some is = grind (arith, merged-admits comparators set is v)
one-admits true v comparators set some is = grind (arith, inside-set comparators set is v)

sets-admit : (pre : Bool) (v : VersionValue) (alternatives : List (List Comparator)) (sets : List (Ends VersionValue))
    → AreSetsOf alternatives sets
    → NpmSetsAdmit pre sets v ↔ AnyByRecursion (λ comparators. NpmAdmit pre comparators v) alternatives
sets-admit pre v [] [] none = (λ nowhere. nowhere, λ nowhere. nowhere)
sets-admit pre v [] (s ∷ sets) m = elim m [ ]
sets-admit pre v (c ∷ alternatives) (s ∷ sets) (one_more _ _ _ _ g i more) =
    let others = sets-admit pre v alternatives sets more in
    let same = one-admits pre v c s g.some i in (
      λ some. elim some [ inl here ↦ inl (same.0 here) | inr there ↦ inr (others.0 there) ],
      λ some. elim some [ inl here ↦ inl (same.1 here) | inr there ↦ inr (others.1 there) ],
    )
sets-admit pre v (c ∷ alternatives) sets (no_more _ _ _ n more) =
    let others = sets-admit pre v alternatives sets more in (
      λ some. inr (others.0 some),
      λ some. elim some [ inl here ↦ absurd (n (gives-from pre v c here)) | inr there ↦ others.1 there ],
    )

-- the sets of a text admit what the text does
pub npm-sets-admit : (options : NpmOptions) (text : List ℕ) (sets : List (Ends VersionValue))
    → AreNpmSets options text sets → (v : VersionValue)
    → NpmSetsAdmit options.include_prerelease sets v ↔ NpmTextAdmits options text v
npm-sets-admit options text sets (inl are) v =
    sets-admit options.include_prerelease v (alternatives_of options text) sets are.0
npm-sets-admit options text sets (inr are) v =
    let pre = options.include_prerelease in
    let nowhere = sets-admit pre v (alternatives_of options text) [] are.0 in (
      λ some. elim (subst (λ (l : List (Ends VersionValue)). NpmSetsAdmit pre l v) are.1 some) [
        | inl here ↦ absurd (none-inside v (inside-of pre no_versions v here))
        | inr there ↦ absurd there
      ],
      λ admits. absurd (nowhere.1 admits),
    )

-- The sets of a text: one list for each text, empty exactly where it is refused, and admitting what the text admits.
use native.Mathlib.Omega.{arith}
use Rattle.std.proofs.Common.{◌≡◌, ◌↔◌, ℕ, List, [], ◌∷◌, ◌++◌, Option, refl, subst}
use Rattle.std.proofs.lemmas.List.{append-nil}
use Rattle.semver_cuts.specs.declared.cut.Cut.TheVariants.{Before}
use Rattle.semver_cuts.specs.Ends.{Ends}
use Rattle.semver_sets.specs.Comparator.{Comparator}
use Rattle.semver_sets.specs.Division.{IsAlternative}
use Rattle.semver_sets.specs.Meaning.{AnyByRecursion, GiveSet, IsRefused, RangeAdmits, TextAdmits}
use Rattle.semver_sets.specs.Merging.{AreSetsOf, AreSetsOfText, no_more, none, one_more}
use Rattle.semver_texts.specs.Version.{VersionValue}
use Rattle.semver_sets.specs.Private.RangeViews.{IsSetOfAlternative, listed_set}
use Rattle.semver_sets.proofs.Ranges.AlternativeLemmas.{written-unique}
use Rattle.semver_sets.proofs.Ranges.MeaningLemmas.{AdmitSome, NoneGive, none-from_refused, refused-from_none}
use Rattle.semver_sets.specs.Lemmas.Merging.{merged-admits, more-none, more-set, set-unique}

-- ---- one alternative after another

-- an alternative that is read, and the set that it gives
pub record ReadsMore (text : List ℕ) (done : List (List Comparator)) (more : List (Ends VersionValue)) : Type 0 where
  pub comparators : List Comparator
  pub alternative : IsAlternative text comparators
  pub merged : AreSetsOf (done ++ comparators ∷ []) more

-- one more alternative
pub reads-set : (text : List ℕ) (done : List (List Comparator)) (sets : List (Ends VersionValue))
    (set : Option (Ends VersionValue))
    → AreSetsOf done sets → IsSetOfAlternative text set → ReadsMore text done (sets ++ listed_set set)
reads-set text done sets set h1 h2 = grind (arith, more-set, append-nil, more-none)

-- ---- no sets

-- where there is no set, no alternative gives one
none-given : (alternatives : List (List Comparator)) (sets : List (Ends VersionValue)) → AreSetsOf alternatives sets
    → sets ≡ []
    → NoneGive alternatives
none-given [] [] none empty = tt
none-given [] (s ∷ sets) m empty = elim m [ ]
none-given (c ∷ alternatives) (s ∷ sets) (one_more _ _ _ _ g i more) empty = cc empty
none-given (c ∷ alternatives) sets (no_more _ _ _ n more) empty = (n, none-given alternatives sets more empty)

-- and where none gives one, there is none
given-none : (alternatives : List (List Comparator)) (sets : List (Ends VersionValue)) → AreSetsOf alternatives sets
    → NoneGive alternatives → sets ≡ []
given-none [] [] none all = refl
given-none [] (s ∷ sets) m all = elim m [ ]
given-none (c ∷ alternatives) (s ∷ sets) (one_more _ _ _ _ g i more) all = absurd (all.0 g)
given-none (c ∷ alternatives) sets (no_more _ _ _ n more) all = given-none alternatives sets more all.1

-- a text without sets is refused
pub refused-from_empty : (text : List ℕ) (sets : List (Ends VersionValue)) → AreSetsOfText text sets → sets ≡ []
    → IsRefused text
refused-from_empty text sets m empty = grind (arith, refused-from_none, none-given)

-- and no other text
pub empty-from_refused : (text : List ℕ) (sets : List (Ends VersionValue)) → AreSetsOfText text sets → IsRefused text
    → sets ≡ []
empty-from_refused text sets m refused =
    given-none m.alternatives sets m.merged (none-from_refused text m.alternatives m.written refused)

-- ---- what the sets admit

-- comparators that admit a version have the cut before it in common
gives-from : (comparators : List Comparator) (v : VersionValue) → AdmitSome v comparators → GiveSet comparators
gives-from comparators v admit = record { some = admit.0; common = (Before v, admit.1.inside) }

sets-admit : (alternatives : List (List Comparator)) (sets : List (Ends VersionValue)) (v : VersionValue)
    → AreSetsOf alternatives sets
    → RangeAdmits sets v ↔ AnyByRecursion (AdmitSome v) alternatives
sets-admit [] [] v none = (λ nowhere. nowhere, λ nowhere. nowhere)
sets-admit [] (s ∷ sets) v m = elim m [ ]
sets-admit (c ∷ alternatives) (s ∷ sets) v (one_more _ _ _ _ g i more) = grind
    (arith, merged-admits, sets-admit alternatives sets v more)
sets-admit (c ∷ alternatives) sets v (no_more _ _ _ n more) = grind
    (arith, gives-from, sets-admit alternatives sets v more)

-- the sets of a text admit just what the text admits
pub text-admits : (text : List ℕ) (sets : List (Ends VersionValue)) → AreSetsOfText text sets → (v : VersionValue)
    → RangeAdmits sets v ↔ TextAdmits text v
text-admits text sets m v =
    let same = sets-admit m.alternatives sets v m.merged in (
      λ some. record { alternatives = m.alternatives; written = m.written; admitted = same.0 some },
      λ admits. same.1 (subst (AnyByRecursion (AdmitSome v))
          (written-unique text admits.alternatives m.alternatives admits.written m.written) admits.admitted),
    )

-- ---- one list

sets-unique : (alternatives : List (List Comparator)) (one other : List (Ends VersionValue))
    → AreSetsOf alternatives one
    → AreSetsOf alternatives other → one ≡ other
sets-unique [] [] [] none none = refl
sets-unique [] [] (t ∷ other) m n = elim n [ ]
sets-unique [] (s ∷ one) other m n = elim m [ ]
sets-unique (c ∷ alternatives) (s ∷ one) (t ∷ other) (one_more _ _ _ _ g i more) (one_more _ _ _ _ h j next) = grind
    (arith, set-unique c s t i j, sets-unique alternatives one other more next)
sets-unique (c ∷ alternatives) (s ∷ one) other (one_more _ _ _ _ g i more) (no_more _ _ _ n next) = absurd (n g)
sets-unique (c ∷ alternatives) one (t ∷ other) (no_more _ _ _ n more) (one_more _ _ _ _ h j next) = absurd (n h)
sets-unique (c ∷ alternatives) one other (no_more _ _ _ n more) (no_more _ _ _ m next) =
    sets-unique alternatives one other more next

-- a text writes one list of sets
pub one-merging : (text : List ℕ) (one other : List (Ends VersionValue)) → AreSetsOfText text one
    → AreSetsOfText text other → one ≡ other
one-merging text one other m n = grind (
  arith,
  sets-unique n.alternatives one other
      (subst (λ (l : List (List Comparator)). AreSetsOf l one)
      (written-unique text m.alternatives n.alternatives m.written n.written) m.merged) n.merged,
)

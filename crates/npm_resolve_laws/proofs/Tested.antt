-- The first element of a list that passes a test, where one passes it.
use Rattle.std.proofs.Common.{◌≡◌, ◌⊎◌, Bool, true, false, List, [], ◌∷◌, ◌++◌, ap, inl, inr, refl, subst}
use Rattle.std.proofs.lemmas.List.Elements.{All-from_recursion, recursion_from_All}
use Rattle.std.proofs.lemmas.List.Sorted.{All-permutation, IsPermutation-sym}
use Rattle.std.specs.Cmp.{IsStrictWeakOrder}
use Rattle.std.specs.List.{AllByRecursion}
use Rattle.std.specs.List.Sorted.{IsPermutation, IsSortedBy}
use Rattle.semver_cuts.specs.Lemmas.Lists.{all_middle}
use Rattle.npm_resolve_laws.proofs.Sorted.{IsUp, up_of}

module _ {X : Type 0} (test : X → Bool) where
  abbrev Fail : List X → Type 0
  Fail = AllByRecursion (λ x. test x ≡ false)

  -- the first that passes
  pub record IsFirst (xs : List X) : Type 0 where
    pub before : List X
    pub first : X
    pub after : List X
    pub parts : xs ≡ before ++ first ∷ after
    pub passes : test first ≡ true
    pub fail : Fail before

  first_or_none : (xs : List X) → IsFirst xs ⊎ Fail xs
  first_or_none [] = inr tt
  first_or_none (x ∷ xs) = by_test (test x) refl (first_or_none xs) where
    by_test : (b : Bool) → test x ≡ b → IsFirst xs ⊎ Fail xs → IsFirst (x ∷ xs) ⊎ Fail (x ∷ xs)
    by_test true is rest = inl (record { before = []; first = x; after = xs; parts = refl; passes = is; fail = tt })
    by_test false is (inr none) = inr (is, none)
    by_test false is (inl some) = inl (record {
      before = x ∷ some.before;
      first = some.first;
      after = some.after;
      parts = ap (λ l. x ∷ l) some.parts;
      passes = some.passes;
      fail = (is, some.fail);
    })

  pub first_of_moved : (all moved front back : List X) (c : X) → IsPermutation all moved → all ≡ front ++ c ∷ back
      → test c ≡ true → IsFirst moved
  first_of_moved all moved front back c same parts passes = elim (first_or_none moved) [
    | inl some ↦ some
    | inr none ↦
        let failing : Fail all = recursion_from_All (λ x. test x ≡ false) all
        (All-permutation (λ x. test x ≡ false) moved all (IsPermutation-sym all moved same)
        (All-from_recursion (λ x. test x ≡ false) moved none)) in
        let fails : test c ≡ false = all_middle (λ x. test x ≡ false) front back c (subst Fail parts failing) in
        absurd (cc (passes, fails))
  ]

  -- where what passes is before what does not, nothing stands before it
  module _ (lt : X → X → Bool) (order : IsStrictWeakOrder lt)
      (apart : (x y : X) → test x ≡ true → test y ≡ false → lt x y ≡ true) where
    pub is_head : (xs : List X) → IsSortedBy lt xs → (some : IsFirst xs) → some.before ≡ []
    is_head xs up some = by_before some.before (subst (IsUp lt order) some.parts (up_of lt order xs up)) some.fail where
      by_before : (before : List X) → IsUp lt order (before ++ some.first ∷ some.after) → Fail before → before ≡ []
      by_before [] above fail = refl
      by_before (y ∷ before) above fail =
          let low : lt some.first y ≡ false = all_middle (λ z. lt z y ≡ false) before some.after some.first above.0 in
          absurd (cc (low, apart some.first y some.passes fail.0))

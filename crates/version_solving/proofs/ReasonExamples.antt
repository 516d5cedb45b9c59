-- What the definitions say of a small problem.
use Rattle.std.proofs.Common.{◌≡◌, ◌<◌, ◌∷◌, ℕ, Bool, List, [], Option, Some, None, IsSomeAnd, All, true, false, zero, suc, slice_get, inl, inr, arith, refl, subst, sym}
use Rattle.std.proofs.lemmas.List.Elements.{All-cons, All-head, All-nil}
use Rattle.version_solving.specs.declared.demand.Demand.{Demand}
use Rattle.version_solving.specs.Solving.{Problem}
use Rattle.version_solving.specs.declared.reasoning.reason.Reason.{Reason}
use Rattle.version_solving.specs.declared.reasoning.reason.Source.TheVariants.{Root}
use Rattle.version_solving.specs.declared.reasoning.reason.Term.{Term}
use Rattle.version_solving.specs.declared.reasoning.reason.Term.TheVariants.{Against, Making}
use Rattle.version_solving.specs.declared.reasoning.reason.Wish.{Wish}
use Rattle.version_solving.specs.Wishes.{IsAgainst, Makes}
use Rattle.version_solving.specs.Reasons.{AreKept, AreRuledOut, Follows, IsJustified, IsKept, IsMetBy, KeepsOthers, RulesOut, wish_of}

-- ---- a plugin, name 0, whose first candidate needs the first of name 1

abbrev need : ℕ → ℕ → Demand
need name range = record { name = name; range = range; needed = true }

abbrev limit : ℕ → ℕ → Demand
limit name range = record { name = name; range = range; needed = false }

abbrev wish : ℕ → Option ℕ → Bool → Wish
wish name range needed = record { name = name; range = range; needed = needed }

-- range 0 allows every candidate, range 1 the first alone, and range 2 the second alone
abbrev is_allowed : ℕ → ℕ → Bool
is_allowed zero candidate = true
is_allowed (suc zero) zero = true
is_allowed (suc zero) (suc candidate) = false
is_allowed (suc (suc range)) zero = false
is_allowed (suc (suc range)) (suc zero) = true
is_allowed (suc (suc range)) (suc (suc candidate)) = false

abbrev demands_of : ℕ → ℕ → List Demand
demands_of zero zero = need 1 1 ∷ []
demands_of zero (suc candidate) = []
demands_of (suc name) candidate = []

-- the root needs both names, and the second candidate of name 1
abbrev both : Problem
both = record { root = need 0 0 ∷ need 1 2 ∷ []; count = λ name. 2; demands = demands_of; allows = is_allowed }

-- ---- wishes

pub a_need_makes_a_wish_of_any_range : Makes (wish 1 None true) (need 1 1)
a_need_makes_a_wish_of_any_range = record { name = refl; range = tt; needed = λ is. refl }

pub a_limit_makes_no_need : Makes (wish 1 (Some 1) true) (limit 1 1) → ⊥
a_limit_makes_no_need makes = let differs : false ≡ true = makes.needed refl in absurd (cc)

differ : (range : ℕ) → range ≡ 1 → range ≡ 2 → ⊥
differ range one two = omega arith

pub another_range_does_not_make_it : Makes (wish 1 (Some 2) true) (need 1 1) → ⊥
another_range_does_not_make_it makes = differ 1 refl makes.range

pub none_is_against_a_need : IsAgainst both (wish 1 (Some 1) true) None
none_is_against_a_need = refl

pub none_is_not_against_a_limit : IsAgainst both (wish 1 (Some 1) false) None → ⊥
none_is_not_against_a_limit is = let differs : false ≡ true = is in absurd (cc)

pub a_candidate_outside_is_against_a_limit : IsAgainst both (wish 1 (Some 1) false) (Some 1)
a_candidate_outside_is_against_a_limit = refl

pub a_candidate_inside_is_not : IsAgainst both (wish 1 (Some 1) true) (Some 0) → ⊥
a_candidate_inside_is_not is = let differs : true ≡ false = is in absurd (cc)

-- ---- lines

pub a_line_of_the_root : IsJustified both [] (Root (need 1 2)) (Against (wish_of (need 1 2)) ∷ [])
a_line_of_the_root = ((1, omega arith, refl), (0, omega arith, refl))

abbrev second_alone : Wish
second_alone = wish 1 (Some 2) true

abbrev first_alone : Wish
first_alone = wish 1 (Some 1) true

-- the root needs the second candidate of name 1, and candidates of the plugin the first one
module _ (one two : Reason) (asked : one.terms.items ≡ Against second_alone ∷ [])
    (plugin : two.terms.items ≡ Making 0 first_alone ∷ Against first_alone ∷ []) where
  kept : AreKept (one ∷ two ∷ []) (0 ∷ 1 ∷ []) 1 (Making 0 first_alone ∷ [])
  kept =
      let P : Term → Type 0 = IsKept 1 (Making 0 first_alone ∷ []) in
      let Q : ℕ → Type 0 = λ line. IsSomeAnd (slice_get (one ∷ two ∷ []) line) (KeepsOthers 1 (Making 0 first_alone ∷ [])) in
      All-cons Q 0 (1 ∷ []) (subst (All P) (sym asked) (All-cons P (Against second_alone) [] (inl refl) (All-nil P)))
      (All-cons Q 1 [] (subst (All P) (sym plugin) (All-cons P (Making 0 first_alone) (Against first_alone ∷ []) (inr (0, omega arith, refl))
      (All-cons P (Against first_alone) [] (inl refl) (All-nil P)))) (All-nil Q))

  out : AreRuledOut both (one ∷ two ∷ []) 1 (0 ∷ 1 ∷ [])
  out None is =
      let P : Term → Type 0 = IsMetBy both 1 None in
      (0, (0, omega arith, refl), subst (All P) (sym asked) (All-cons P (Against second_alone) [] (λ same. refl) (All-nil P)))
  out (Some zero) is =
      let P : Term → Type 0 = IsMetBy both 1 (Some 0) in
      (0, (0, omega arith, refl), subst (All P) (sym asked) (All-cons P (Against second_alone) [] (λ same. refl) (All-nil P)))
  out (Some (suc zero)) is =
      let P : Term → Type 0 = IsMetBy both 1 (Some 1) in (
        1,
        (1, omega arith, refl),
        subst (All P) (sym plugin) (All-cons P (Making 0 first_alone) (Against first_alone ∷ [])
            (λ same. let differs : 0 ≡ 1 = same in absurd (omega arith)) (All-cons P (Against first_alone) [] (λ same. refl) (All-nil P))),
      )
  out (Some (suc (suc c))) is = let small : suc (suc c) < 2 = is in absurd (omega arith)

  pub the_plugin_does_not_fit : Follows both (one ∷ two ∷ []) 1 (0 ∷ 1 ∷ []) (Making 0 first_alone ∷ [])
  the_plugin_does_not_fit = (kept, out)

  root_alone : (line : ℕ) → IsSomeAnd (slice_get (one ∷ []) line) (RulesOut both 1 (Some 1)) → ⊥
  root_alone zero out =
      let P : Term → Type 0 = IsMetBy both 1 (Some 1) in
      let differs : true ≡ false = All-head P (Against second_alone) [] (subst (All P) asked out) refl in absurd (cc)
  root_alone (suc line) out = absurd out

  -- the root allows the second candidate
  pub the_line_of_the_root_alone_does_not_do : AreRuledOut both (one ∷ []) 1 (0 ∷ []) → ⊥
  the_line_of_the_root_alone_does_not_do out = let found = out (Some 1) (omega arith) in root_alone found.0 found.2

-- Whoever has reasons knows that nothing fits.
use Rattle.std.proofs.Common.{◌≡◌, ◌⊎◌, ◌<◌, ◌-◌, ◌∷◌, ℕ, true, false, List, [], length, take, slice_get, Option, Some, None, MatchOption, IfSome, IsSomeAnd, Contains, get_or, zero, suc, inl, inr, refl, ap, sym, subst, arith}
use Rattle.std.proofs.lemmas.List.Elements.{All-contains, All-nil}
use Rattle.version_solving.specs.declared.demand.Demand.{Demand}
use Rattle.version_solving.specs.Solving.{Fits, Holds, NoneFits, Problem, Selection}
use Rattle.version_solving.specs.declared.reasoning.reason.Reason.{Reason}
use Rattle.version_solving.specs.declared.reasoning.reason.Source.{Source}
use Rattle.version_solving.specs.declared.reasoning.reason.Source.TheVariants.{Candidates, Lines, Root}
use Rattle.version_solving.specs.declared.reasoning.reason.Term.{Term}
use Rattle.version_solving.specs.declared.reasoning.reason.Term.TheVariants.{Against, Making}
use Rattle.version_solving.specs.declared.reasoning.reason.Wish.{Wish}
use Rattle.version_solving.specs.Wishes.{Forbids, IsAgainst, IsOf, Makes, Meets, name_of}
use Rattle.version_solving.specs.Reasons.{AreJustified, AreRuledOut, Follows, IsJustified, IsKept, IsMetBy, IsProof, IsRuledOut, IsValue, KeepsOthers, RulesOut, wish_of}

-- what holds at each place of a list holds at each place of its beginning
below_take : {X : Type 0} (P : X → Type 0) (n : ℕ) (xs : List X) → ((j : ℕ) → j < n → IfSome (slice_get xs j) P)
    → (j : ℕ) → IfSome (slice_get (take n xs) j) P
below_take P zero xs each j = tt
below_take P (suc n) [] each j = tt
below_take P (suc n) (x ∷ xs) each zero = each 0 (omega arith)
below_take P (suc n) (x ∷ xs) each (suc j) = below_take P n xs (λ i small. each (suc i) (omega arith)) j

-- none, or a candidate
pub each_value : (p : Problem) (above : List Reason) (name : ℕ) (lines : List ℕ) → IsRuledOut p above name lines None
    → ((candidate : ℕ) → candidate < p.count name → IsRuledOut p above name lines (Some candidate)) → AreRuledOut p above name lines
each_value p above name lines free chosen None is = free
each_value p above name lines free chosen (Some c) is = chosen c is

module _ (p : Problem) where
  -- what is against a wish does not hold for a demand that makes it
  out_of_range : (o : Option ℕ) (range candidate : ℕ) → IsSomeAnd o (λ r. p.allows r candidate ≡ false) → IfSome o (λ r. range ≡ r)
      → p.allows range candidate ≡ true → ⊥
  out_of_range None range c outside same inside = absurd outside
  out_of_range (Some r) range c outside same inside =
      let equal : p.allows range c ≡ p.allows r c = ap (λ r. p.allows r c) same in
      let differ : true ≡ false = cc in cc

  against_fails : (w : Wish) (d : Demand) → Makes w d → (u : Option ℕ) → IsAgainst p w u
      → MatchOption u (d.needed ≡ false) (λ candidate. p.allows d.range candidate ≡ true) → ⊥
  against_fails w d made None fails holds =
      let needed : d.needed ≡ true = made.needed fails in
      let differ : true ≡ false = cc in cc
  against_fails w d made (Some c) fails holds = out_of_range w.range d.range c fails made.range holds

  module _ (s : Selection) (fits : Fits p s) where
    root_fails : (d : Demand) → Contains p.root d → IsOf p (Against (wish_of d)) (s d.name) → ⊥
    root_fails d inside fails =
        against_fails (wish_of d) d (record { name = refl; range = refl; needed = λ is. is }) (s d.name) fails
        (All-contains (Holds p s) p.root d fits.root inside)

    candidate_fails : (name : ℕ) (w : Wish) (u : Option ℕ) → s name ≡ u → IsOf p (Making name w) u → IsAgainst p w (s w.name) → ⊥
    candidate_fails name w None is made fails = absurd made
    candidate_fails name w (Some c) is made fails =
        let d = made.0 in
        let holds = All-contains (Holds p s) (p.demands name c) d (fits.candidates name c is) made.1 in
        let there : IsAgainst p w (s d.name) = subst (λ n. IsAgainst p w (s n)) (sym made.2.name) fails in
        against_fails w d made.2 (s d.name) there holds

    -- a selection that meets the terms that follow meets those of the line that rules out what it selects
    meets_line : (name : ℕ) (terms : List Term) (r : Reason) → Meets p s terms → KeepsOthers name terms r → RulesOut p name (s name) r
        → Meets p s r.terms.items
    meets_line name terms r meets kept out k d small = by_case (get_or r.terms.items k d) (kept k d small) (out k d small) where
      by_case : (t : Term) → IsKept name terms t → IsMetBy p name (s name) t → IsOf p t (s (name_of t))
      by_case t (inl same) met = subst (λ n. IsOf p t (s n)) (sym same) (met same)
      by_case t (inr inside) met = All-contains (λ t. IsOf p t (s (name_of t))) terms t meets inside

    line_fails : (name : ℕ) (terms : List Term) → Meets p s terms → (o : Option Reason) → IsSomeAnd o (KeepsOthers name terms)
        → IsSomeAnd o (RulesOut p name (s name)) → IfSome o (λ r. Forbids p r.terms.items) → ⊥
    line_fails name terms meets None kept out forbids = absurd kept
    line_fails name terms meets (Some r) kept out forbids = forbids s fits (meets_line name terms r meets kept out)

    value_there : (name : ℕ) (u : Option ℕ) → s name ≡ u → IsValue p name u
    value_there name None is = tt
    value_there name (Some c) is = fits.existing name c is

    follows_fails : (above : List Reason) → ((k : ℕ) → IfSome (slice_get above k) (λ r. Forbids p r.terms.items))
        → (name : ℕ) (lines : List ℕ) (terms : List Term) → Follows p above name lines terms → Meets p s terms → ⊥
    follows_fails above forbid name lines terms follows meets =
        let out = follows.1 (s name) (value_there name (s name) refl) in
        let kept = All-contains (λ line. IsSomeAnd (slice_get above line) (KeepsOthers name terms)) lines out.0 follows.0 out.1 in
        line_fails name terms meets (slice_get above out.0) kept out.2 (forbid out.0)

  justified_forbids : (above : List Reason) → ((k : ℕ) → IfSome (slice_get above k) (λ r. Forbids p r.terms.items))
      → (source : Source) (terms : List Term) → IsJustified p above source terms → Forbids p terms
  justified_forbids above forbid (Root d) terms is s fits meets =
      root_fails s fits d is.0 (All-contains (λ t. IsOf p t (s (name_of t))) terms (Against (wish_of d)) meets is.1)
  justified_forbids above forbid (Candidates name w) terms is s fits meets =
      candidate_fails s fits name w (s name) refl
      (All-contains (λ t. IsOf p t (s (name_of t))) terms (Making name w) meets is.0)
      (All-contains (λ t. IsOf p t (s (name_of t))) terms (Against w) meets is.1)
  justified_forbids above forbid (Lines name from) terms is s fits meets =
      follows_fails s fits above forbid name from.items terms is meets

  module _ (lines : List Reason) where
    at_line : (above : List Reason) → ((k : ℕ) → IfSome (slice_get above k) (λ r. Forbids p r.terms.items)) → (o : Option Reason)
        → IfSome o (λ r. IsJustified p above r.source r.terms.items) → IfSome o (λ r. Forbids p r.terms.items)
    at_line above forbid None is = tt
    at_line above forbid (Some r) is = justified_forbids above forbid r.source r.terms.items is

    below : (n k : ℕ) → k < suc n → (k < n) ⊎ (k ≡ n)
    below n k small = grind arith

    -- each line is true
    lines_forbid : AreJustified p lines → (n k : ℕ) → k < n → IfSome (slice_get lines k) (λ r. Forbids p r.terms.items)
    lines_forbid each zero k small = absurd (omega arith)
    lines_forbid each (suc n) k small = by_case (lines_forbid each n) k (below n k small) where
      by_case : ((j : ℕ) → j < n → IfSome (slice_get lines j) (λ r. Forbids p r.terms.items)) → (k : ℕ) → (k < n) ⊎ (k ≡ n)
          → IfSome (slice_get lines k) (λ r. Forbids p r.terms.items)
      by_case before k (inl less) = before k less
      by_case before k (inr same) =
          let here = at_line (take n lines) (below_take (λ r. Forbids p r.terms.items) n lines before) (slice_get lines n) (each n) in
          subst (λ j. IfSome (slice_get lines j) (λ r. Forbids p r.terms.items)) (sym same) here

    last_fails : (o : Option Reason) → IsSomeAnd o (λ r. r.terms.items ≡ []) → IfSome o (λ r. Forbids p r.terms.items)
        → (s : Selection) → Fits p s → ⊥
    last_fails None empty forbids s fits = absurd empty
    last_fails (Some r) empty forbids s fits =
        forbids s fits (subst (Meets p s) (sym empty) (All-nil (λ t. IsOf p t (s (name_of t)))))

    pub proof_sound : IsProof p lines → NoneFits p []
    proof_sound proof s fits keeps =
        last_fails (slice_get lines (length lines - 1)) proof.last
        (lines_forbid proof.each (suc (length lines - 1)) (length lines - 1) (omega arith)) s fits

-- The selection where the root has one demand, which is needed, and the candidates of its name demand nothing.
use Rattle.std.proofs.Common.{◌≡◌, ◌∙◌, ◌==◌, ◌<◌, ◌++◌, ◌∷◌, ℕ, List, [], All, Bool, true, false, None, Some, arith, refl, subst, subst₂, sym}
use Rattle.std.proofs.lemmas.Bool.Decides.{Decides-eqb}
use Rattle.std.proofs.lemmas.List.Elements.{All-from_recursion, recursion_from_All}
use Rattle.std.specs.List.{AllByRecursion}
use Rattle.std.specs.Prelude.{MatchOption}
use Rattle.version_solving.specs.Solving.{AreFirst, Fits, Holds, IsTheSelection, NoneFits, Problem, Selection, first_open, next_name, selection_of}
use Rattle.version_solving.specs.declared.demand.Demand.{Demand}
use Rattle.version_solving.specs.declared.outcome.Choice.{Choice}

module _ (p : Problem) (d : Demand) (alone : p.root ≡ d ∷ []) (needed : d.needed ≡ true)
    (nothing : (c : ℕ) → p.demands d.name c ≡ []) where
  abbrev pub chosen : ℕ → Choice
  chosen c = record { name = d.name; candidate = c }

  itself : (d.name == d.name) ≡ true
  itself = (Decides-eqb d.name d.name).1 refl

  selects : (c : ℕ) → selection_of (chosen c ∷ []) d.name ≡ Some c
  selects c = rw itself refl

  only : (c name candidate : ℕ) → selection_of (chosen c ∷ []) name ≡ Some candidate → (d.name ≡ name) × (c ≡ candidate)
  only c name candidate is = by_name (d.name == name) refl where
    by_name : (b : Bool) → (d.name == name) ≡ b → (d.name ≡ name) × (c ≡ candidate)
    by_name true same = let found : Some c ≡ Some candidate = rw same at is in ((Decides-eqb d.name name).0 same, cc found)
    by_name false other = let none : None ≡ Some candidate = rw other at is in cc none

  fits_one : (c : ℕ) → c < p.count d.name → p.allows d.range c ≡ true → Fits p (selection_of (chosen c ∷ []))
  fits_one c inside allowed =
      let s : Selection = selection_of (chosen c ∷ []) in
      record {
        existing = λ name candidate is. subst₂ (λ n k. k < p.count n) (only c name candidate is).0 (only c name candidate is).1 inside;
        root = subst (All (Holds p s)) (sym alone) (All-from_recursion (Holds p s) (d ∷ []) (held, tt));
        candidates = λ name candidate is. subst (All (Holds p s))
            (sym (subst (λ n. p.demands n candidate ≡ []) (only c name candidate is).0 (nothing candidate)))
            (All-from_recursion (Holds p s) [] tt);
      }
    where
      held : Holds p (selection_of (chosen c ∷ [])) d
      held = subst (λ o. MatchOption o (d.needed ≡ false) (λ k. p.allows d.range k ≡ true)) (sym (selects c)) allowed

  pub none_allowed : NoneFits p [] → (c : ℕ) → c < p.count d.name → p.allows d.range c ≡ true → ⊥
  none_allowed none c inside allowed = none (selection_of (chosen c ∷ [])) (fits_one c inside allowed) (λ name candidate is. cc is)

  -- the name is needed first, and nothing after it
  opens : next_name p [] ≡ Some d.name
  opens = subst (λ root. first_open (selection_of []) root ≡ Some d.name) (sym alone) (rw needed refl)

  closes : (c : ℕ) → next_name p (chosen c ∷ []) ≡ None
  closes c = subst₂ (λ root more. first_open (selection_of (chosen c ∷ [])) (root ++ more) ≡ None) (sym alone) (sym (nothing c))
      (rw (needed, itself) refl)

  is_last : (choice : Choice) (earlier : List Choice) → AreFirst p (choice ∷ earlier) → (choice.name ≡ d.name) × (earlier ≡ [])
  is_last choice [] first = let named : Some choice.name ≡ Some d.name = sym first.1 ∙ opens in (cc named, refl)
  is_last choice (e ∷ earlier) first =
      let rest = is_last e earlier first.0 in
      let one : chosen e.candidate ∷ [] ≡ e ∷ earlier = λ i. record { name = (sym rest.0) i; candidate = e.candidate } ∷ (sym rest.1) i in
      let closed : next_name p (e ∷ earlier) ≡ None = subst (λ l. next_name p l ≡ None) one (closes e.candidate) in
      let never : Some choice.name ≡ None = sym first.1 ∙ closed in
      cc never

  -- the choice is of the first candidate that the demand's range allows
  pub record IsOne (choices : List Choice) : Type 0 where
    pub candidate : ℕ
    pub are : choices ≡ chosen candidate ∷ []
    pub inside : candidate < p.count d.name
    pub allowed : p.allows d.range candidate ≡ true
    pub first : (better : ℕ) → better < candidate → p.allows d.range better ≡ true → ⊥

  of_one : (choices : List Choice) (c : ℕ) → choices ≡ chosen c ∷ [] → IsTheSelection p (chosen c ∷ []) → IsOne choices
  of_one choices c are is =
      let inside : c < p.count d.name = is.fits.existing d.name c (selects c) in
      let held : AllByRecursion (Holds p (selection_of (chosen c ∷ []))) (d ∷ []) =
      recursion_from_All (Holds p (selection_of (chosen c ∷ []))) (d ∷ []) (subst (All (Holds p (selection_of (chosen c ∷ [])))) alone is.fits.root) in
      record {
        candidate = c;
        are = are;
        inside = inside;
        allowed = subst (λ o. MatchOption o (d.needed ≡ false) (λ k. p.allows d.range k ≡ true)) (selects c) held.0;
        first = λ better below allowed. is.first.2 better below (selection_of (chosen better ∷ []))
            (fits_one better (omega (arith, below, inside)) allowed) (λ name candidate same. same);
      }

  pub one_choice : (choices : List Choice) → IsTheSelection p choices → IsOne choices
  one_choice [] is = let never : Some d.name ≡ None = sym opens ∙ is.complete in cc never
  one_choice (choice ∷ earlier) is =
      let one = is_last choice earlier is.first in
      let are : choice ∷ earlier ≡ chosen choice.candidate ∷ [] = λ i. record { name = one.0 i; candidate = choice.candidate } ∷ one.1 i in
      of_one (choice ∷ earlier) choice.candidate are (subst (IsTheSelection p) are is)

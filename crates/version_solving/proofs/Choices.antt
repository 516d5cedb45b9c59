-- What is known of choices that are first.
use Rattle.std.proofs.Common.{◌≡◌, ◌≢◌, ◌⊎◌, ◌∙◌, ◌==◌, ℕ, Bool, true, false, cond, List, [], ◌∷◌, Option, Some, None, All, Contains, inl, inr, refl, ap, sym, subst}
use Rattle.std.proofs.lemmas.Bool.Decides.{Decides-eqb}
use Rattle.std.proofs.lemmas.List.Elements.{All-contains, All-contains_itself, All-weaker, Contains-append_cases, Contains-append_left, Contains-append_right}
use Rattle.version_solving.specs.declared.demand.Demand.{Demand}
use Rattle.version_solving.specs.declared.outcome.Choice.{Choice}
use Rattle.version_solving.specs.Solving.{AreFirst, Holds, IsGrounded, IsNeeded, IsTheSelection, Keeps, Problem, Selection, demands_so_far, next_name, selection_of}
use Rattle.version_solving.specs.Solving.IsNeeded.{by_candidate, by_root}
use Rattle.version_solving.specs.Private.Paths.{Allows, AreThere}
use Rattle.version_solving.proofs.OpenDemands.{needed_has, open_found}

-- ---- what a list of choices selects

pub newest : (choice : Choice) (earlier : List Choice) → selection_of (choice ∷ earlier) choice.name ≡ Some choice.candidate
newest choice earlier =
    ap (λ b. cond b (Some choice.candidate) (selection_of earlier choice.name)) ((Decides-eqb choice.name choice.name).1 refl)

pub older : (choice : Choice) (earlier : List Choice) (name : ℕ) → choice.name ≢ name
    → selection_of (choice ∷ earlier) name ≡ selection_of earlier name
older choice earlier name other = by_kind (choice.name == name) refl where
  by_kind : (b : Bool) → (choice.name == name) ≡ b → selection_of (choice ∷ earlier) name ≡ selection_of earlier name
  by_kind true is = absurd (other ((Decides-eqb choice.name name).0 is))
  by_kind false is = ap (λ b. cond b (Some choice.candidate) (selection_of earlier name)) is

-- what the earlier choices select stays, where the name of the last one was free
pub stays : (choice : Choice) (earlier : List Choice) → selection_of earlier choice.name ≡ None → (name candidate : ℕ)
    → selection_of earlier name ≡ Some candidate → selection_of (choice ∷ earlier) name ≡ Some candidate
stays choice earlier free name candidate is = older choice earlier name (λ same.
    let no : None ≡ Some candidate = sym free ∙ (ap (selection_of earlier) same ∙ is) in absurd (cc)) ∙ is

-- a selected name is that of the last choice, or an earlier one's
pub selected_cases : (choice : Choice) (earlier : List Choice) (name candidate : ℕ)
    → selection_of (choice ∷ earlier) name ≡ Some candidate
    → ((choice.name ≡ name) × (choice.candidate ≡ candidate)) ⊎ (selection_of earlier name ≡ Some candidate)
selected_cases choice earlier name candidate is = by_kind (choice.name == name) refl where
  by_kind : (b : Bool) → (choice.name == name) ≡ b
      → ((choice.name ≡ name) × (choice.candidate ≡ candidate)) ⊎ (selection_of earlier name ≡ Some candidate)
  by_kind true same =
      let found : Some choice.candidate ≡ Some candidate = sym (ap (λ b. cond b (Some choice.candidate) (selection_of earlier name)) same) ∙ is in
      inl ((Decides-eqb choice.name name).0 same, cc)
  by_kind false other = inr (sym (ap (λ b. cond b (Some choice.candidate) (selection_of earlier name)) other) ∙ is)

pub keeps_more : (s : Selection) (choices : List Choice) (choice : Choice) → Keeps s choices → s choice.name ≡ Some choice.candidate
    → Keeps s (choice ∷ choices)
keeps_more s choices choice keeps has name candidate is = by_case (selected_cases choice choices name candidate is) where
  by_case : ((choice.name ≡ name) × (choice.candidate ≡ candidate)) ⊎ (selection_of choices name ≡ Some candidate) → s name ≡ Some candidate
  by_case (inl same) = sym (ap s same.0) ∙ (has ∙ ap Some same.1)
  by_case (inr old) = keeps name candidate old

-- ---- a selection that fits and keeps the choices

module _ (p : Problem) where
  pub free_of : (earlier : List Choice) (name : ℕ) → next_name p earlier ≡ Some name → selection_of earlier name ≡ None
  free_of earlier name next = (open_found (selection_of earlier) (demands_so_far p earlier) name next).free

  -- the demands of a selected candidate are among those so far
  pub demands_within : (choices : List Choice) → AreFirst p choices → (name candidate : ℕ) → selection_of choices name ≡ Some candidate
      → (d : Demand) → Contains (p.demands name candidate) d → Contains (demands_so_far p choices) d
  demands_within [] first name candidate is d inside = absurd (cc)
  demands_within (choice ∷ earlier) first name candidate is d inside =
      by_case (λ old. demands_within earlier first.0 name candidate old d inside) (selected_cases choice earlier name candidate is) where
        by_case : (selection_of earlier name ≡ Some candidate → Contains (demands_so_far p earlier) d)
            → ((choice.name ≡ name) × (choice.candidate ≡ candidate)) ⊎ (selection_of earlier name ≡ Some candidate)
            → Contains (demands_so_far p (choice ∷ earlier)) d
        by_case before (inl same) = Contains-append_right (demands_so_far p earlier) (p.demands choice.name choice.candidate) d
            (rw (same.0, same.1) inside)
        by_case before (inr old) = Contains-append_left (demands_so_far p earlier) (p.demands choice.name choice.candidate) d (before old)

  pub root_within : (choices : List Choice) (d : Demand) → Contains p.root d → Contains (demands_so_far p choices) d
  root_within [] d inside = inside
  root_within (choice ∷ earlier) d inside =
      Contains-append_left (demands_so_far p earlier) (p.demands choice.name choice.candidate) d (root_within earlier d inside)

  -- ---- what is needed stays needed

  pub needed_more : (s t : Selection) → ((name candidate : ℕ) → s name ≡ Some candidate → t name ≡ Some candidate) → (name : ℕ)
      → IsNeeded p s name → IsNeeded p t name
  needed_more s t more name (by_root d inside needed) = by_root d inside needed
  needed_more s t more name (by_candidate other candidate d is_needed is inside needed) =
      by_candidate other candidate d (needed_more s t more other is_needed) (more other candidate is) inside needed

  -- a name that a demand so far needs is needed, where the choices are grounded
  pub needed_so_far : (choices : List Choice) → AreFirst p choices → (s : Selection)
      → ((name candidate : ℕ) → selection_of choices name ≡ Some candidate → s name ≡ Some candidate)
      → ((name candidate : ℕ) → selection_of choices name ≡ Some candidate → IsNeeded p s name)
      → (d : Demand) → Contains (demands_so_far p choices) d → d.needed ≡ true → IsNeeded p s d.name
  needed_so_far [] first s keeps grounded d inside needed = by_root d inside needed
  needed_so_far (choice ∷ earlier) first s keeps grounded d inside needed =
      by_case
      (λ old. needed_so_far earlier first.0 s
      (λ name candidate is. keeps name candidate (stays choice earlier (free_of earlier choice.name first.1) name candidate is))
      (λ name candidate is. grounded name candidate (stays choice earlier (free_of earlier choice.name first.1) name candidate is))
      d old needed)
      (Contains-append_cases (demands_so_far p earlier) (p.demands choice.name choice.candidate) d inside) where
        by_case : (Contains (demands_so_far p earlier) d → IsNeeded p s d.name)
            → Contains (demands_so_far p earlier) d ⊎ Contains (p.demands choice.name choice.candidate) d → IsNeeded p s d.name
        by_case before (inl old) = before old
        by_case before (inr new) = by_candidate choice.name choice.candidate d
            (grounded choice.name choice.candidate (newest choice earlier))
            (keeps choice.name choice.candidate (newest choice earlier)) new needed

  pub grounded : (choices : List Choice) → AreFirst p choices → IsGrounded p (selection_of choices)
  grounded [] first name candidate is = absurd (cc)
  grounded (choice ∷ earlier) first name candidate is =
      by_case (grounded earlier first.0) (selected_cases choice earlier name candidate is) where
        earlier_stays : (name candidate : ℕ) → selection_of earlier name ≡ Some candidate → selection_of (choice ∷ earlier) name ≡ Some candidate
        earlier_stays = stays choice earlier (free_of earlier choice.name first.1)

        before : IsGrounded p (selection_of earlier) → (name candidate : ℕ) → selection_of earlier name ≡ Some candidate
            → IsNeeded p (selection_of (choice ∷ earlier)) name
        before was name' candidate' is' = needed_more (selection_of earlier) (selection_of (choice ∷ earlier)) earlier_stays name'
            (was name' candidate' is')

        by_case : IsGrounded p (selection_of earlier)
            → ((choice.name ≡ name) × (choice.candidate ≡ candidate)) ⊎ (selection_of earlier name ≡ Some candidate)
            → IsNeeded p (selection_of (choice ∷ earlier)) name
        by_case was (inl same) =
            let found = open_found (selection_of earlier) (demands_so_far p earlier) choice.name first.1 in
            let is_needed : IsNeeded p (selection_of (choice ∷ earlier)) found.demand.name =
            needed_so_far earlier first.0 (selection_of (choice ∷ earlier)) earlier_stays (before was) found.demand found.inside found.needed in
            subst (IsNeeded p (selection_of (choice ∷ earlier))) (found.named ∙ same.0) is_needed
        by_case was (inr old) = before was name candidate old

  -- ---- the answer

  holds_from : (s : Selection) (d : Demand) → Allows p s d → (d.needed ≡ true → s d.name ≢ None) → Holds p s d
  holds_from s d allowed has = by_kind (s d.name) refl d.needed refl allowed where
    by_kind : (o : Option ℕ) → s d.name ≡ o → (b : Bool) → d.needed ≡ b → Allows p s d → Holds p s d
    by_kind None is true needed allow = absurd (has needed is)
    by_kind None is false needed allow = rw is needed
    by_kind (Some candidate) is b needed allow =
        let allows : p.allows d.range candidate ≡ true = rw is at allow in
        rw is allows

  pub selection_done : (choices : List Choice) → AreFirst p choices → AreThere p choices
      → All (Allows p (selection_of choices)) (demands_so_far p choices) → next_name p choices ≡ None → IsTheSelection p choices
  selection_done choices first there allowed complete = record {
    fits = record {
      existing = there;
      root = each p.root (root_within choices);
      candidates = λ name candidate is. each (p.demands name candidate) (demands_within choices first name candidate is);
    };
    grounded = grounded choices first;
    first = first;
    complete = complete;
  } where
    hold : (d : Demand) → Contains (demands_so_far p choices) d → Holds p (selection_of choices) d
    hold d inside = holds_from (selection_of choices) d
        (All-contains (Allows p (selection_of choices)) (demands_so_far p choices) d allowed inside)
        (needed_has (selection_of choices) (demands_so_far p choices) complete d inside)

    each : (xs : List Demand) → ((d : Demand) → Contains xs d → Contains (demands_so_far p choices) d) → All (Holds p (selection_of choices)) xs
    each xs within = All-weaker (Contains xs) (Holds p (selection_of choices)) (λ d inside. hold d (within d inside)) xs (All-contains_itself xs)

-- Demands that are kept on the way to the culprits.
use Rattle.std.proofs.Common.{◌≡◌, ◌⊎◌, ◌<◌, ◌≤◌, ◌+◌, ◌++◌, ◌∷◌, ◌∙◌, ℕ, List, [], All, Contains, append_assoc, inl, inr, length, get_or, take, reverse, ap, arith, sym, subst}
use Rattle.std.proofs.lemmas.List.{append-nil, reverse-append, take_all, take_more}
use Rattle.std.proofs.lemmas.List.Elements.{All-head, All-tail, All-contains, All-contains_itself, All-push, All-weaker, Contains-append_cases, Contains-append_left, Contains-append_right, Contains-get_or}
use Rattle.version_solving.specs.declared.demand.Demand.{Demand}
use Rattle.version_solving.specs.declared.outcome.Choice.{Choice}
use Rattle.version_solving.specs.Culprits.{AreCulprits, CanBeMet, with_root}
use Rattle.version_solving.specs.Solving.{Holds, IsTheSelection, NoneFits, Problem, selection_of}
use Rattle.version_solving.specs.Private.Missed.{AreMissed, AreTooMany}

All-reverse : (P : Demand → Type 0) (ds : List Demand) → All P ds → All P (reverse ds)
All-reverse P [] all = all
All-reverse P (d ∷ ds) all = subst (All P) (sym (reverse-append (d ∷ []) ds))
    (All-push P (reverse ds) d (All-reverse P ds (All-tail P d ds all)) (All-head P d ds all))

module _ (p : Problem) where
  -- no choice is kept by every selection
  pub none_can : (demands : List Demand) → NoneFits (with_root p demands) [] → CanBeMet p demands → ⊥
  none_can demands none can = none can.0 can.1 (λ name candidate is. absurd (cc))

  pub selected_can : (demands : List Demand) (choices : List Choice) → IsTheSelection (with_root p demands) choices → CanBeMet p demands
  selected_can demands choices is = (selection_of choices, is.fits)

  -- fewer demands can be met too
  pub fewer_can : (fewer more : List Demand) → ((d : Demand) → Contains fewer d → Contains more d) → CanBeMet p more → CanBeMet p fewer
  fewer_can fewer more within can = (
    can.0,
    record {
      existing = can.1.existing;
      root = All-weaker (Contains fewer) (Holds p can.0)
          (λ d inside. All-contains (Holds p can.0) more d can.1.root (within d inside)) fewer (All-contains_itself fewer);
      candidates = can.1.candidates;
    },
  )

  same_can : (ds es : List Demand) → ds ≡ es → CanBeMet p ds → CanBeMet p es
  same_can ds es same can = subst (CanBeMet p) same can

  -- ---- one demand of the root at a time

  module _ (place : ℕ) (d : Demand) (small : place < length p.root) where
    one_more : take (place + 1) p.root ≡ take place p.root ++ get_or p.root place d ∷ []
    one_more = take_more p.root place d small

    -- the demand is not kept: the others cannot be met without it
    pub left_out : (kept : List Demand) → AreMissed p (place + 1) kept → (CanBeMet p (take place p.root ++ reverse kept) → ⊥)
        → AreMissed p place kept
    left_out kept missed none = record {
      within = missed.within;
      together = none;
      without_one = λ before after one is.
          let more = missed.without_one before after one is in
          fewer_can (take place p.root ++ (before ++ after)) (take (place + 1) p.root ++ (before ++ after)) (inside before after) more;
    } where
      inside : (before after : List Demand) (e : Demand) → Contains (take place p.root ++ (before ++ after)) e
          → Contains (take (place + 1) p.root ++ (before ++ after)) e
      inside before after e is =
          by_case (Contains-append_cases (take place p.root) (before ++ after) e is) where
            by_case : Contains (take place p.root) e ⊎ Contains (before ++ after) e → Contains (take (place + 1) p.root ++ (before ++ after)) e
            by_case (inl first) = Contains-append_left (take (place + 1) p.root) (before ++ after) e
                (rw one_more (Contains-append_left (take place p.root) (get_or p.root place d ∷ []) e first))
            by_case (inr second) = Contains-append_right (take (place + 1) p.root) (before ++ after) e second

    -- the demand is kept: the others can be met without it
    pub kept_too : (kept : List Demand) → AreMissed p (place + 1) kept → CanBeMet p (take place p.root ++ reverse kept)
        → AreMissed p place (kept ++ get_or p.root place d ∷ [])
    kept_too kept missed can = record {
      within = All-push (Contains p.root) kept (get_or p.root place d) missed.within (Contains-get_or p.root place d small);
      together = λ all. missed.together (same_can (take place p.root ++ reverse (kept ++ get_or p.root place d ∷ []))
          (take (place + 1) p.root ++ reverse kept) whole all);
      without_one = λ before after one is. by_front before after one (sym reversed ∙ is);
    } where
      this : Demand
      this = get_or p.root place d

      reversed : reverse (kept ++ get_or p.root place d ∷ []) ≡ get_or p.root place d ∷ reverse kept
      reversed = reverse-append kept (get_or p.root place d ∷ [])

      whole : take place p.root ++ reverse (kept ++ get_or p.root place d ∷ []) ≡ take (place + 1) p.root ++ reverse kept
      whole = rw (reversed, one_more) (sym (append_assoc (take place p.root) (get_or p.root place d ∷ []) (reverse kept)))

      by_front : (before after : List Demand) (one : Demand) → get_or p.root place d ∷ reverse kept ≡ before ++ one ∷ after
          → CanBeMet p (take place p.root ++ (before ++ after))
      by_front [] after one is =
          let rest : reverse kept ≡ after = cc in
          same_can (take place p.root ++ reverse kept) (take place p.root ++ after) (ap (λ ds. take place p.root ++ ds) rest) can
      by_front (first ∷ before) after one is =
          let same : get_or p.root place d ≡ first = cc in
          let rest : reverse kept ≡ before ++ one ∷ after = cc in
          same_can (take (place + 1) p.root ++ (before ++ after)) (take place p.root ++ (first ∷ (before ++ after)))
          (rw one_more (append_assoc (take place p.root) (get_or p.root place d ∷ []) (before ++ after)
          ∙ ap (λ e. take place p.root ++ e ∷ (before ++ after)) same))
          (missed.without_one before after one rest)

  -- ---- the beginning and the end

  pub all_missed : (CanBeMet p p.root → ⊥) → (n : ℕ) → length p.root ≤ n → AreMissed p n []
  all_missed none n whole = record {
    within = λ k d small. absurd (omega arith);
    together = λ can. none (same_can (take n p.root ++ []) p.root (append-nil (take n p.root) ∙ take_all n p.root whole) can);
    without_one = λ before after one is. absurd (no_parts before after one is);
  } where
    no_parts : (before after : List Demand) (one : Demand) → [] ≡ before ++ one ∷ after → ⊥
    no_parts [] after one is = absurd (cc)
    no_parts (first ∷ before) after one is = absurd (cc)

  pub missed_all : (kept : List Demand) → AreMissed p 0 kept → AreCulprits p (reverse kept)
  missed_all kept missed = record {
    within = All-reverse (Contains p.root) kept missed.within;
    together = missed.together;
    without_one = missed.without_one;
  }

  -- ---- demands that cannot be met together

  pub none_of : (demands : List Demand) → (CanBeMet p demands → ⊥) → NoneFits (with_root p demands) []
  none_of demands together s fits keeps = together (s, fits)

  pub all_too_many : NoneFits p [] → AreTooMany p p.root
  all_too_many none = record { within = All-contains_itself p.root; together = λ can. none can.0 can.1 (λ name candidate is. absurd (cc)) }

  pub fewer_too_many : (kept fewer : List Demand) → AreTooMany p kept → All (Contains kept) fewer → NoneFits (with_root p fewer) [] → AreTooMany p fewer
  fewer_too_many kept fewer are within none = record {
    within = All-weaker (Contains kept) (Contains p.root) (λ d inside. All-contains (Contains p.root) kept d are.within inside) fewer within;
    together = none_can fewer none;
  }

  pub culprits_of_fewer : (few demands : List Demand) → AreTooMany p few → AreCulprits (with_root p few) demands → AreCulprits p demands
  culprits_of_fewer few demands are culprits = record {
    within = All-weaker (Contains few) (Contains p.root) (λ d inside. All-contains (Contains p.root) few d are.within inside) demands culprits.within;
    together = culprits.together;
    without_one = culprits.without_one;
  }

-- The first candidate outside a range is that of the first choice, where a demand for what is outside is the first one.
use Rattle.std.proofs.Common.{◌≡◌, ◌↔◌, ◌<◌, ◌++◌, ◌∙◌, ℕ, true, false, List, [], ◌∷◌, Option, Some, None, MatchOption, All, get_or, reverse, slice_get, zero, suc, ap, sym, subst, arith}
use Rattle.std.proofs.lemmas.List.{reverse-append}
use Rattle.std.proofs.lemmas.List.Elements.{All-append, All-head, All-tail}
use Rattle.version_solving.specs.declared.change.Change.TheVariants.{First}
use Rattle.version_solving.specs.declared.demand.Demand.{Demand}
use Rattle.version_solving.specs.declared.outcome.Choice.{Choice}
use Rattle.version_solving.specs.declared.outcome.Outcome.{Outcome}
use Rattle.version_solving.specs.declared.outcome.Outcome.TheVariants.{NoSelection, Selected, Undecided}
use Rattle.version_solving.specs.Fitting.{IsFirst, WouldFit}
use Rattle.version_solving.specs.Outcomes.{IfNoSelection, IfSelected}
use Rattle.version_solving.specs.Solving.{AreFirst, Fits, Holds, IsTheSelection, Keeps, NoneFits, Problem, Selection, first_open, next_name, selection_of}
use Rattle.version_solving.specs.Private.Changes.{change_at, change_in}
use Rattle.version_solving.proofs.Choices.{free_of, keeps_more, newest, stays}

-- A problem with one demand more, at the front: it needs the name, with a range of its own, which allows what another range does not.
pub record IsTurned (p q : Problem) (name range number : ℕ) : Type 0 where
  pub root : q.root ≡ record { name = name; range = number; needed = true } ∷ p.root
  pub count : (other : ℕ) → q.count other ≡ p.count other
  pub demands : (other candidate : ℕ) → q.demands other candidate ≡ p.demands other candidate
  pub allows : (other candidate : ℕ) → other < number → q.allows other candidate ≡ p.allows other candidate
  pub there : (other candidate : ℕ) → p.allows other candidate ≡ true → other < number
  pub turned : (candidate : ℕ) → q.allows number candidate ≡ true ↔ (candidate < p.count name × p.allows range candidate ≡ false)
  pub of_root : All (λ (d : Demand). d.range < number) p.root
  pub of_candidates : (other candidate : ℕ) → All (λ (d : Demand). d.range < number) (p.demands other candidate)

-- ---- the first choice

module _ (q : Problem) (x : Choice) where
  bottom : (more : List Choice) → AreFirst q (more ++ x ∷ []) → AreFirst q (x ∷ [])
  bottom [] first = first
  bottom (c ∷ more) first = bottom more first.0

  bottom_stays : (more : List Choice) → AreFirst q (more ++ x ∷ []) → selection_of (more ++ x ∷ []) x.name ≡ Some x.candidate
  bottom_stays [] first = newest x []
  bottom_stays (c ∷ more) first = stays c (more ++ x ∷ []) (free_of q (more ++ x ∷ []) c.name first.1) x.name x.candidate
      (bottom_stays more first.0)

module _ (p q : Problem) (name range number : ℕ) (is : IsTurned p q name range number) where
  abbrev front : Demand
  front = record { name = name; range = number; needed = true }

  -- ---- what fits one fits the other

  module _ (s : Selection) where
    holds_down : (d : Demand) → d.range < number → Holds q s d → Holds p s d
    holds_down d small holds = by_kind (s d.name) holds where
      by_kind : (o : Option ℕ) → MatchOption o (d.needed ≡ false) (λ c. q.allows d.range c ≡ true)
          → MatchOption o (d.needed ≡ false) (λ c. p.allows d.range c ≡ true)
      by_kind None h = h
      by_kind (Some c) h = sym (is.allows d.range c small) ∙ h

    holds_up : (d : Demand) → Holds p s d → Holds q s d
    holds_up d holds = by_kind (s d.name) holds where
      by_kind : (o : Option ℕ) → MatchOption o (d.needed ≡ false) (λ c. p.allows d.range c ≡ true)
          → MatchOption o (d.needed ≡ false) (λ c. q.allows d.range c ≡ true)
      by_kind None h = h
      by_kind (Some c) h = is.allows d.range c (is.there d.range c h) ∙ h

    all_down : (ds : List Demand) → All (λ (d : Demand). d.range < number) ds → All (Holds q s) ds → All (Holds p s) ds
    all_down ds small holds k d inside = holds_down (get_or ds k d) (small k d inside) (holds k d inside)

    all_up : (ds : List Demand) → All (Holds p s) ds → All (Holds q s) ds
    all_up ds holds k d inside = holds_up (get_or ds k d) (holds k d inside)

    root_of : Fits q s → All (Holds q s) (front ∷ p.root)
    root_of fits = subst (All (Holds q s)) is.root fits.root

    fits_down : Fits q s → Fits p s
    fits_down fits = record {
      existing = λ other c has. subst (λ n. c < n) (is.count other) (fits.existing other c has);
      root = all_down p.root is.of_root (All-tail (Holds q s) front p.root (root_of fits));
      candidates = λ other c has. all_down (p.demands other c) (is.of_candidates other c)
          (subst (All (Holds q s)) (is.demands other c) (fits.candidates other c has));
    }

    front_holds : (candidate : ℕ) → s name ≡ Some candidate → q.allows number candidate ≡ true → Holds q s front
    front_holds candidate has inside = subst (λ o. MatchOption o (true ≡ false) (λ c. q.allows number c ≡ true)) (sym has) inside

    fits_up : (candidate : ℕ) → Fits p s → s name ≡ Some candidate → p.allows range candidate ≡ false → Fits q s
    fits_up candidate fits has outside = record {
      existing = λ other c is_there. subst (λ n. c < n) (sym (is.count other)) (fits.existing other c is_there);
      root = subst (All (Holds q s)) (sym is.root) (All-append (Holds q s) (front ∷ []) p.root
          (one (front_holds candidate has ((is.turned candidate).1 (fits.existing name candidate has, outside))))
          (all_up p.root fits.root));
      candidates = λ other c is_there. subst (All (Holds q s)) (sym (is.demands other c))
          (all_up (p.demands other c) (fits.candidates other c is_there));
    } where
      one : Holds q s front → All (Holds q s) (front ∷ [])
      one holds zero d inside = holds
      one holds (suc k) d inside = absurd (omega (arith, inside))

  -- ---- what the search finds

  none_keeps : (s : Selection) → Keeps s []
  none_keeps s other candidate has = absurd (cc)

  none_would : NoneFits q [] → (candidate : ℕ) → WouldFit p name range candidate → ⊥
  none_would none candidate would = none would.selection
      (fits_up would.selection candidate would.fits would.selected would.outside) (none_keeps would.selection)

  next_is : next_name q [] ≡ Some name
  next_is = ap (first_open (selection_of [])) is.root

  outside_of : (s : Selection) (candidate : ℕ) → Fits q s → s name ≡ Some candidate → p.allows range candidate ≡ false
  outside_of s candidate fits has =
      let holds : Holds q s front = All-head (Holds q s) front p.root (root_of s fits) in
      ((is.turned candidate).0 (subst (λ o. MatchOption o (true ≡ false) (λ c. q.allows number c ≡ true)) has holds)).1

  module _ (x : Choice) (more : List Choice) (found : IsTheSelection q (more ++ x ∷ [])) where
    abbrev s : Selection
    s = selection_of (more ++ x ∷ [])

    first : AreFirst q (x ∷ [])
    first = bottom q x more found.first

    named : x.name ≡ name
    named = let both : Some x.name ≡ Some name = sym first.1 ∙ next_is in cc

    has : s name ≡ Some x.candidate
    has = subst (λ n. s n ≡ Some x.candidate) named (bottom_stays q x more found.first)

    no_earlier : (earlier : ℕ) → earlier < x.candidate → WouldFit p name range earlier → ⊥
    no_earlier earlier small would =
        let t = would.selection in
        let fits = fits_up t earlier would.fits would.selected would.outside in
        let chosen : t x.name ≡ Some earlier = ap t named ∙ would.selected in
        first.2 earlier small t fits
        (keeps_more t [] (record { name = x.name; candidate = earlier }) (none_keeps t) chosen)

    first_would : IsFirst p name range (First x.candidate)
    first_would = (
      record { outside = outside_of s x.candidate found.fits has; selection = s; fits = fits_down s found.fits; selected = has },
      no_earlier,
    )

  of_choices : (choices : List Choice) → IsTheSelection q (reverse choices) → IsFirst p name range (change_at (slice_get choices 0))
  of_choices [] found = absurd (let none : Some name ≡ None = sym next_is ∙ found.complete in cc)
  of_choices (x ∷ more) found = first_would x (reverse more) (subst (IsTheSelection q) (reverse-append (x ∷ []) more) found)

  pub is_first : (outcome : Outcome) → IfSelected outcome (IsTheSelection q) → IfNoSelection outcome (NoneFits q [])
      → IsFirst p name range (change_in outcome)
  is_first (Selected choices) found none = of_choices choices.items found
  is_first NoSelection found none = none_would none
  is_first Undecided found none = tt

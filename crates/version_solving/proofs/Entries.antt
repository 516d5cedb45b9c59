-- The first open demand, along the demands so far.
use Rattle.std.proofs.Common.{◌≡◌, ◌<◌, ◌+◌, ◌++◌, ◌∙◌, ◌&&◌, ℕ, Bool, true, false, List, [], ◌∷◌, length, Option, Some, None, is_none, get_or, take, drop, refl, ap, sym}
use Rattle.std.proofs.lemmas.List.{drop_more, take-append-drop, take_more}
use Rattle.version_solving.specs.declared.demand.Demand.{Demand}
use Rattle.version_solving.specs.Solving.{Selection, first_open, is_open}
use Rattle.version_solving.proofs.OpenDemands.{first_at, open_none-append}

module _ (s : Selection) (ds : List Demand) (at : ℕ) (d : Demand) (small : at < length ds)
    (none : first_open s (take at ds) ≡ None) where
  split_at : ds ≡ take at ds ++ get_or ds at d ∷ drop (at + 1) ds
  split_at = sym (take-append-drop at ds) ∙ ap (λ ys. take at ds ++ ys) (drop_more ds at d small)

  pub open_here : is_open s (get_or ds at d) ≡ true → first_open s ds ≡ Some (get_or ds at d).name
  open_here is =
      ap (first_open s) split_at
      ∙ (open_none-append s (take at ds) (get_or ds at d ∷ drop (at + 1) ds) none
      ∙ first_at s (get_or ds at d) (drop (at + 1) ds) true is)

  pub open_further : is_open s (get_or ds at d) ≡ false → first_open s (take (at + 1) ds) ≡ None
  open_further is =
      ap (first_open s) (take_more ds at d small)
      ∙ (open_none-append s (take at ds) (get_or ds at d ∷ []) none
      ∙ first_at s (get_or ds at d) [] false is)

-- ---- a demand that is not open stays so, with more choices

closed_step : (s t : Selection) (d : Demand) (more : List Demand)
    → ((name : ℕ) → t name ≡ None → s name ≡ None)
    → (first_open s more ≡ None → first_open t more ≡ None) → (b : Bool) → is_open s d ≡ b → (b' : Bool) → is_open t d ≡ b'
    → first_open s (d ∷ more) ≡ None → first_open t (d ∷ more) ≡ None
closed_step s t d more fewer later true is b' is' none =
    let same : Some d.name ≡ None = sym (first_at s d more true is) ∙ none in absurd (cc)
closed_step s t d more fewer later false is false is' none =
    first_at t d more false is' ∙ later (sym (first_at s d more false is) ∙ none)
closed_step s t d more fewer later false is true is' none = absurd (opened d.needed (t d.name) (s d.name) is is' (fewer d.name)) where
  opened : (needed : Bool) (u v : Option ℕ) → (needed && is_none v) ≡ false → (needed && is_none u) ≡ true → (u ≡ None → v ≡ None) → ⊥
  opened false u v closed opens less = cc
  opened true (Some x) v closed opens less = cc
  opened true None None closed opens less = cc
  opened true None (Some x) closed opens less = let same : Some x ≡ None = less refl in cc

pub closed_more : (s t : Selection) → ((name : ℕ) → t name ≡ None → s name ≡ None) → (ds : List Demand)
    → first_open s ds ≡ None → first_open t ds ≡ None
closed_more s t fewer [] none = refl
closed_more s t fewer (d ∷ more) none =
    closed_step s t d more fewer (closed_more s t fewer more) (is_open s d) refl (is_open t d) refl none

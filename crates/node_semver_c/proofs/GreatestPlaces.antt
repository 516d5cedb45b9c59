-- The best version of an array that is wanted, with its place, as one version more is looked at.
use Rattle.std.proofs.Common.{◌≡◌, suc, ◌+◌, ◌<◌, ◌∙◌, ℕ, List, [], ◌∷◌, ◌++◌, Option, Some, None, length, get_or, take}
use Rattle.std.proofs.Common.{Bool, refl, sym, ap, subst, inl, inr, arith, Less}
use Rattle.std.proofs.lemmas.List.{take_more, length-take-le}
use Rattle.node_semver_c.specs.Greatest.{IsBestAt, IsGreatestAt, IsLeastAt, values}
use Rattle.node_semver_c.specs.Private.GreatestPlaces.{IsBestAtOrNone, IsBetterAt}
use Rattle.node_semver_c.specs.declared.handle.version.VersionRef.{VersionRef}
use Rattle.semver_cuts.specs.Lemmas.Lists.{all-append}
use Rattle.semver_texts.specs.Comparison.{version_cmp}
use Rattle.semver_texts.specs.Version.{VersionValue}
use Rattle.node_semver.specs.Greatest.{IsNoneIn}
use Rattle.node_semver.specs.Lemmas.GreatestViews.{Order, downward, order_of}
use Rattle.node_semver.specs.Lemmas.GreatestLemmas.{IsOrder, as-greatest, as-least, each-order, keep-best, none-at}
use Rattle.node_semver.specs.Lemmas.GreatestLemmas.{take-better, take-first}

module _ (order : Order) (is : IsOrder order) (Wanted : VersionValue → Type 0) where
  more-place : (done : List VersionValue) (place : ℕ) (v : VersionValue) (best found : Option (ℕ × VersionValue))
      → length done ≡ place → IsBestAtOrNone order Wanted done best → IsBetterAt order Wanted best place v found
      → IsBestAtOrNone order Wanted (done ++ v ∷ []) found
  more-place done place v None found at none (inl (after, admits, taken)) =
      subst (IsBestAtOrNone order Wanted (done ++ v ∷ [])) (sym taken)
      (take-first order is Wanted done v none admits, at)
  more-place done place v None found at none (inr (not, kept)) =
      subst (IsBestAtOrNone order Wanted (done ++ v ∷ [])) (sym kept)
      (all-append (λ (w : VersionValue). ¬ Wanted w) done (v ∷ []) none
      ((λ admitted. not (tt, admitted)), tt))
  more-place done place v (Some best) found at first (inl (after, admits, taken)) =
      subst (IsBestAtOrNone order Wanted (done ++ v ∷ [])) (sym taken)
      (take-better order is Wanted done best.1 v first.0 after admits, at)
  more-place done place v (Some best) found at first (inr (not, kept)) =
      subst (IsBestAtOrNone order Wanted (done ++ v ∷ [])) (sym kept)
      (keep-best order is Wanted done best.1 v first.0 not, first.1)

values-append : (one other : List VersionRef) → values (one ++ other) ≡ values one ++ values other
values-append [] other = refl
values-append (handle ∷ one) other = ap (λ (l : List VersionValue). handle.value ∷ l) (values-append one other)

length-values : (handles : List VersionRef) → length (values handles) ≡ length handles
length-values [] = refl
length-values (handle ∷ handles) = ap (λ (n : ℕ). suc n) (length-values handles)

-- as a loop goes over the handles
pub taken-place : (upward : Bool) (Wanted : VersionValue → Type 0) (handles : List VersionRef)
    (k : ℕ) (handle : VersionRef) (best found : Option (ℕ × VersionValue)) → k < length handles
    → handle ≡ get_or handles k handle → IsBestAtOrNone (order_of upward) Wanted (values (take k handles)) best
    → IsBetterAt (order_of upward) Wanted best k handle.value found
    → IsBestAtOrNone (order_of upward) Wanted (values (take (k + 1) handles)) found
taken-place upward Wanted handles k handle best found lt at first better =
    subst (λ (l : List VersionValue). IsBestAtOrNone (order_of upward) Wanted l found)
    (sym (ap values (take_more handles k handle lt ∙ ap (λ (h : VersionRef). take k handles ++ h ∷ []) (sym at))
    ∙ values-append (take k handles) (handle ∷ [])))
    (more-place (order_of upward) (each-order upward) Wanted (values (take k handles)) k handle.value best found
    (length-values (take k handles) ∙ length-take-le k handles (omega (arith, lt))) first better)

-- ---- the program's result

pub greatest-at : (Wanted : VersionValue → Type 0) (versions : List VersionValue) (place : ℕ)
    → IsBestAt (λ v best. version_cmp best v ≡ Less) Wanted versions place → IsGreatestAt Wanted versions place
greatest-at Wanted versions place at =
    record { best = at.best; first = as-greatest Wanted versions at.best at.first; place_is = at.place_is }

pub least-at : (Wanted : VersionValue → Type 0) (versions : List VersionValue) (place : ℕ)
    → IsBestAt (λ v best. downward best v ≡ Less) Wanted versions place → IsLeastAt Wanted versions place
least-at Wanted versions place at =
    record { best = at.best; first = as-least Wanted versions at.best at.first; place_is = at.place_is }

pub some-admitted : (order : Order) (Wanted : VersionValue → Type 0) (versions : List VersionValue) (place : ℕ)
    (v : VersionValue) → IsBestAtOrNone order Wanted versions (Some (place, v)) → ¬ IsNoneIn Wanted versions
some-admitted order Wanted versions place v first =
    none-at Wanted first.0.before first.0.after versions v first.0.parts first.0.admitted

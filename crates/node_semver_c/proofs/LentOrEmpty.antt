-- What a handle has that borrows or is empty: nothing and a null pointer, or what a handle that borrows has. Assumes
-- `Logic`.
use Rattle.std.proofs.Common.{◌≡◌, ℕ, List, [], ◌∷◌, refl, sym, subst}
use seplogic.Ra.Ura.{Ura}
use base.Logic.{ent, sep}
use base.Fml.{ftrue}
use types.Logic.{Logic, sem}
use types.Kit.{Item, Goal, Seq, ‵, ◌⊛◌, ◌$◌, ◌∵◌, !, qed, move, drop, use1, split, fpick, fpack, done}
use denote.RattleType.{RowLaws, RattleType}
use denote.RawPtr.{Ptr, Testable, null_ptr}
use denote.Struct.Lending.{lent_at, lent_at_shr_laws}
use denote.Steps.{nothing}
use Rattle.std.specs.Prelude.{Option, Some, None}
use Rattle.node_semver_c.specs.Handles.{borrows, borrows_held}
use Rattle.node_semver_c.proofs.Lent as lent

module _ {M : Type 1} {𝓤 : Ura M} {𝓛 : Logic 𝓤} {K : Type 0} {Γ : List (Item 𝓤)} {G : Goal 𝓤 𝓛.H} where
  pub either_lent : K → (R : RattleType) (p : Ptr) (a : ℕ) (o : Option R.Denot)
      → (o ≡ None → p ≡ null_ptr → Seq K 𝓛 Γ G)
      → ((x : R.Denot) → o ≡ Some x → Testable p → Seq K 𝓛 (‵ (borrows R p a x) ∷ Γ) G)
      → Seq K 𝓛 (‵ (borrows_held R p a o) ∷ Γ) G
  either_lent t R p a None empty full = fpick t (λ e. drop t $ empty refl e)
  either_lent t R p a (Some x) empty full = fpick t (λ may. full x refl may)

module _ {M : Type 1} {𝓤 : Ura M} (𝓛 : Logic 𝓤) (R : RattleType) (L : RowLaws R) (p : Ptr) (a : ℕ) where
  pub none_again : (o : Option R.Denot) → o ≡ None → p ≡ null_ptr
      → ent 𝓤 (sem 𝓛 ftrue) (sem 𝓛 (borrows_held R p a o))
  none_again o none at =
      subst (λ (o : Option R.Denot). ent 𝓤 (sem 𝓛 ftrue) (sem 𝓛 (borrows_held R p a o))) (sym none)
      (qed 𝓛 (‵ ftrue ∷ []) ∵ fpack ! (p ≡ null_ptr) (λ _. ftrue) at $ done !)

  pub some_again : (o : Option R.Denot) (x : R.Denot) → o ≡ Some x → Testable p
      → ent 𝓤 (sem 𝓛 (borrows R p a x)) (sem 𝓛 (borrows_held R p a o))
  some_again o x some may =
      subst (λ (o : Option R.Denot). ent 𝓤 (sem 𝓛 (borrows R p a x)) (sem 𝓛 (borrows_held R p a o))) (sym some)
      (qed 𝓛 (‵ (borrows R p a x) ∷ []) ∵ fpack ! (Testable p) (λ _. borrows R p a x) may $ done !)

  pub held_twice : (o : Option R.Denot)
      → ent 𝓤 (sem 𝓛 (borrows_held R p a o)) (sep 𝓤 (sem 𝓛 (borrows_held R p a o)) (sem 𝓛 (borrows_held R p a o)))
  held_twice None = qed 𝓛 (‵ (borrows_held R p a None) ∷ []) ∵ fpick ! (λ at.
      fpack ! (p ≡ null_ptr) (λ _. ftrue) at $ nothing ! $ fpack ! (p ≡ null_ptr) (λ _. ftrue) at $ done !)
  held_twice (Some x) = qed 𝓛 (‵ (borrows_held R p a (Some x)) ∷ []) ∵ fpick ! (λ may.
      use1 𝓛 (‵ (borrows R p a x) ⊛ ‵ (borrows R p a x))
      (lent.heap_twice 𝓛 (lent_at R p x) (lent_at_shr_laws R L p x) a) $ split ! $
      fpack ! (Testable p) (λ _. borrows R p a x) may $ move ! (1 ∷ []) $
      fpack ! (Testable p) (λ _. borrows R p a x) may $ done !)

-- What an owning handle has: a null pointer where it is empty, else a value that may be freed. Assumes `Logic`.
use Rattle.std.proofs.Common.{◌≡◌, List, ◌∷◌, refl}
use seplogic.Ra.Ura.{Ura}
use base.Logic.{ent, via, snd∗, guard, guard_i}
use mir.Raw.{raw as bare}
use contract.Monad.{fact_use}
use types.Logic.{Logic, sem}
use types.Kit.{Item, Goal, Seq, ‵, ◌$◌, drop, fpick}
use base.Fraction.{full_share}
use denote.Memory.{lone}
use denote.RattleType.{RattleType}
use denote.RawPtr.{Ptr, Testable, null_ptr, lies_at}
use Rattle.std.proofs.GlobalToken.{dealloc_token-Testable}
use Rattle.std.specs.Prelude.{Option, Some, None}
use Rattle.std.specs.Box.Ownership.{box_owns}
use Rattle.std.specs.declared.alloc.Global.{Global}
use Rattle.std.specs.contracts.impls.GlobalAllocator.TheImpl.{ghosts}
use Rattle.node_semver_c.specs.Handles.{owns, owns_held}

module _ {M : Type 1} {𝓤 : Ura M} (𝓛 : Logic 𝓤) (R : RattleType) (a : Global) (p : Ptr) (x : R.Denot) where
  abbrev Boxed : base.Fml.Fml
  Boxed = box_owns (ghosts.dealloc_token a) R p x

  -- a pointer that may be freed may be compared with null
  pub boxed_tested : ent 𝓤 (sem 𝓛 Boxed) (guard 𝓤 (Testable p) (sem 𝓛 Boxed))
  boxed_tested =
      fact_use 𝓤 (Testable p)
      (via 𝓤 _ (snd∗ 𝓤 (sem 𝓛 (lies_at R full_share p x)) (sem 𝓛 (ghosts.dealloc_token a (bare (lone R.mir)) p)))
      (dealloc_token-Testable 𝓛 a (bare (lone R.mir)) p)) (guard_i 𝓤 (Testable p) (sem 𝓛 Boxed))

module _ {M : Type 1} {𝓤 : Ura M} {𝓛 : Logic 𝓤} {K : Type 0} {Γ : List (Item 𝓤)} {G : Goal 𝓤 𝓛.H} where
  pub either_held : K → (R : RattleType) (p : Ptr) (o : Option R.Denot)
      → (o ≡ None → p ≡ null_ptr → Seq K 𝓛 Γ G)
      → ((x : R.Denot) → o ≡ Some x → Seq K 𝓛 (‵ (owns R p x) ∷ Γ) G) → Seq K 𝓛 (‵ (owns_held R p o) ∷ Γ) G
  either_held t R p None empty full = fpick t (λ e. drop t $ empty refl e)
  either_held t R p (Some x) empty full = full x refl

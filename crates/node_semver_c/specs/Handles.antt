-- What a handle means in memory.
use Rattle.std.specs.Prelude.{◌≡◌, ℕ, [], ◌∷◌, Option, Some, None}
use base.Fml.{Share, Fml, ftrue, fsep, fex, flft}
use denote.RattleType.{RattleType}
use denote.RawPtr.{Ptr, Testable, null_ptr}
use denote.Struct.Lending.{lent_at}
use Rattle.std.specs.Box.Ownership.{box_owns}
use Rattle.std.specs.declared.alloc.Global.{Global}
use Rattle.std.specs.contracts.impls.GlobalAllocator.TheImpl.{ghosts}

-- a borrowed handle: while the lifetime a lasts, the value x of the type R lies at p, and nobody changes or frees it.
-- Each holder has a share of the right to end the lifetime, so many calls may borrow one handle at once.
abbrev pub borrows : (R : RattleType) → Ptr → ℕ → R.Denot → Fml
borrows R p a x = fsep (fex Share (λ s. flft (a ∷ []) s)) (lent_at R p x (a ∷ []))

-- a borrowed handle that may be empty. If it is empty, its pointer is null; if not, its pointer may be compared with
-- null
abbrev pub borrows_held : (R : RattleType) → Ptr → ℕ → Option R.Denot → Fml
borrows_held R p a None = fex (p ≡ null_ptr) (λ _. ftrue)
borrows_held R p a (Some x) = fex (Testable p) (λ _. borrows R p a x)

-- the value x of the type R lies at p on the heap, and the owner may free it
abbrev pub owns : (R : RattleType) → Ptr → R.Denot → Fml
owns R p x = fex Global (λ a. box_owns (ghosts.dealloc_token a) R p x)

-- an owning handle: its pointer is null where it is empty
abbrev pub owns_held : (R : RattleType) → Ptr → Option R.Denot → Fml
owns_held R p None = fex (p ≡ null_ptr) (λ _. ftrue)
owns_held R p (Some x) = owns R p x

-- A result that was kept is one that was found.
use Rattle.std.proofs.Common.{ℕ, sym, ap, ◌∙◌, subst, inl, inr}
use Rattle.std.specs.Prelude.{Option, Some, None}
use Rattle.node_semver_c.specs.Answers.{IsFound, IsMade, made, no_memory, status_found}
use Rattle.node_semver_c.specs.Status.{IsKept, IsKeptAnswer}

pub found_of : {X : Type 0} (Answers : Option X → Type 0) (answer : Option X) (status : ℕ) (held : Option X)
    → Answers answer
    → IsKeptAnswer answer status held → IsFound Answers status held
found_of Answers None status held a k = inl (subst Answers (sym k.1) a, k.0 ∙ ap status_found (sym k.1))
found_of Answers (Some x) status held a (inl k) = inl (subst Answers (sym k.1) a, k.0 ∙ ap status_found (sym k.1))
found_of Answers (Some x) status held a (inr k) = inr k

pub made_of : {X : Type 0} (Is : X → Type 0) (x : X) (status : ℕ) (held : Option X) → Is x → IsKept x status held
    → IsMade Is status held
made_of Is x status held is (inl k) = made x is k.0 k.1
made_of Is x status held is (inr k) = no_memory k.0 k.1

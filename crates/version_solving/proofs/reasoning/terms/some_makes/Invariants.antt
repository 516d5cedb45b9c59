use Rattle.std.proofs.Common.{All, take}
use Rattle.version_solving.specs.Wishes.{Makes}
use Rattle.version_solving.proofs.reasoning.terms.some_makes.Given as goal

abbrev pub invariant-loop-demand : goal.invariant-loop-demand
invariant-loop-demand l = All (λ d. Makes l.wish d → ⊥) (take l.demand-index l.demands)

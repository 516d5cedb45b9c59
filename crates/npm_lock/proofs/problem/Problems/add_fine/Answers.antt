-- One dependency more, and nothing else.
use Rattle.std.proofs.Common.{refl}
use Rattle.npm_lock.specs.Outcomes.{problem_value, unchecked_value}
use Rattle.npm_lock.proofs.Reports.{grown, same_count, same_list}
use Rattle.npm_lock.proofs.problem.Problems.add_fine.Goals as goal

pub returns : goal.returns
returns c = grown c.args.self.now _ _ (same_list problem_value _ _ refl) (same_list unchecked_value _ _ refl)
    (same_count _ _ refl) (λ n held. c.saturating_add-self.ensures)

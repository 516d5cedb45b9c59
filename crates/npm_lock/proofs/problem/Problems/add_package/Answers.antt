-- The list grows by what `extend` takes from the option.
use Rattle.std.proofs.Common.{refl}
use Rattle.std.proofs.lemmas.Iterator.Adapters.{YieldsList-from_once, fact_from_extend}
use Rattle.npm_lock.specs.Outcomes.{problem_value, unchecked_value}
use Rattle.npm_lock.proofs.Reports.{grown, listed, same_count, same_list}
use Rattle.npm_lock.proofs.problem.Problems.add_package.Goals as goal

pub returns : goal.returns
returns c = fact_from_extend (λ x. x) c.extend.result c.extend.ensures.ran
    (λ it is. YieldsList-from_once c.args.problem is.0)
    (λ more items grows. grown c.args.self.now _ _ (listed problem_value _ _ more c.args.problem items grows.0)
    (same_list unchecked_value _ _ refl)
    (λ n held. c.saturating_add-self.ensures)
    (same_count _ _ refl))

-- Each list grows by what `extend` takes from its option.
use Rattle.std.proofs.Common.{◌≡◌, ◌++◌, OnOk, map, option_map, refl}
use Rattle.std.proofs.lemmas.Iterator.Adapters.{YieldsList-from_once, fact_from_extend}
use Rattle.std.specs.Option.{option_to_list}
use Rattle.npm_lock.specs.Outcomes.{problem_value, unchecked_value}
use Rattle.npm_lock.proofs.Reports.{grown, listed, same_count}
use Rattle.npm_lock.proofs.problem.Problems.add_dependency.Goals as goal

pub returns : goal.returns
returns c =
    let list : OnOk c.extend.result (map problem_value c.extend.new.self.items
    ≡ map problem_value c.args.self.now.list.items ++ option_to_list (option_map problem_value c.args.problem)) =
    fact_from_extend (λ x. x) c.extend.result c.extend.ensures.ran (λ it is. YieldsList-from_once c.args.problem is.0)
    (λ more items grows. listed problem_value _ _ more c.args.problem items grows.0) in
    let here = rw c.in_ok-extend.was at list in
    fact_from_extend (λ x. x) c.extend-2.result c.extend-2.ensures.ran
    (λ it is. YieldsList-from_once c.args.unchecked is.0)
    (λ more items grows. grown c.args.self.now _ _ here
    (listed unchecked_value _ _ more c.args.unchecked items grows.0) (same_count _ _ refl)
    (λ n held. c.saturating_add-self.ensures))

-- Each text admits what its range does, so the least version of both ranges is that of both texts.
use Rattle.node_semver_callers.proofs.LeastOfTexts.{least-of_texts, none-of_texts}
use Rattle.node_semver_callers.proofs.both.version_for_both.Goals as goal

pub returns-in-Ok-clause-least : goal.returns-in-Ok-clause-least
returns-in-Ok-clause-least c =
    least-of_texts c.args.one.now c.args.other.now _ _ c.in_ok-range.ensures.means c.in_ok-with.ensures.means
    c.in-Ok.found c.in-Ok.ensures.least

pub returns-in-Ok-clause-none : goal.returns-in-Ok-clause-none
returns-in-Ok-clause-none c =
    let none = none-of_texts c.args.one.now c.args.other.now _ _ c.in_ok-range.ensures.means c.in_ok-with.ensures.means
    in
    (λ no. none.0 (c.in-Ok.ensures.none.0 no), λ no. c.in-Ok.ensures.none.1 (none.1 no))

use Rattle.std.proofs.Common.{◌∙◌, ap, option_map, sym}
use Rattle.npm_lock.specs.Verdict.{alone, both, valid}
use Rattle.npm_lock.proofs.verdict.verdict_of_both.Goals as goal

pub returns-in-Valid : goal.returns-in-Valid
returns-in-Valid c = valid (rw c.in-Valid.is at c.in_ok-verdict.ensures)

pub returns-in_default-accepted_of : goal.returns-in_default-accepted_of
returns-in_default-accepted_of c = alone _
    (sym c.accepted_of.ensures ∙ ap (option_map (λ t. t.now)) c.in_default-accepted_of.is) c.in_ok-verdict.ensures

pub returns : goal.returns
returns c = rw c.better.ensures (both c.in-Some.accepted.now _ _ (sym c.in-Some.ensures) c.in_ok-verdict.ensures
    c.in_ok-verdict_of.ensures)

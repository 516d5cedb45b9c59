-- By its kind, and by what is seen.
use Rattle.npm_trees.proofs.Telling.{left_by}
use Rattle.npm_trees.proofs.left_out.is_left_out.Goals as goal

pub returns-then-ask : goal.returns-then-ask
returns-then-ask c = ((λ never. cc never), (λ is. absurd (cc (is.unbundled, c.if-ask.true))))

pub returns-in-Optional : goal.returns-in-Optional
returns-in-Optional c = left_by c.args.places.now c.args.ask.now _ (rw c.start_of.ensures at c.seen_from.ensures) c.if-ask.false
    c.in-Optional.is c.is_none.result c.is_none.ensures

pub returns-in_default : goal.returns-in_default
returns-in_default c = ((λ never. cc never), (λ is. absurd (c.in_default.not-Optional is.optional)))

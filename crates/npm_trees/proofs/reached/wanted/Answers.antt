-- What is seen is wanted, if it is asked for.
use Rattle.npm_trees.proofs.Ways.{refused_never, seen_wanted, unseen_never}
use Rattle.npm_trees.proofs.reached.wanted.Goals as goal

pub returns-then-ask : goal.returns-then-ask
returns-then-ask c = λ to. ((λ never. cc never), (λ w. absurd (cc (w.unbundled, c.if-ask.true))))

pub returns-in_err-to : goal.returns-in_err-to
returns-in_err-to c =
    rw c.from_residual.ensures (λ to. (
      (λ never. cc never),
      (λ w. absurd (unseen_never c.args.places.now c.args.documents.now c.args.ask.now _ (rw c.start_of.ensures at c.seen_from.ensures)
          c.in_err-to.was to w)),
    ))

pub returns-then-asks_for : goal.returns-then-asks_for
returns-then-asks_for c = λ other. seen_wanted c.args.places.now c.args.documents.now c.args.ask.now _
    (rw c.start_of.ensures at c.seen_from.ensures) c.in_ok-to.to c.in_ok-to.was other c.if-ask.false
    (c.asks_for.ensures.0 c.if-asks_for.true)

pub returns-else-asks_for : goal.returns-else-asks_for
returns-else-asks_for c = λ other. (
  (λ never. cc never),
  (λ w. absurd (refused_never c.args.places.now c.args.documents.now c.args.ask.now _ (rw c.start_of.ensures at c.seen_from.ensures)
      c.in_ok-to.to c.in_ok-to.was other (λ asks. cc (c.asks_for.ensures.1 asks, c.if-asks_for.false)) w)),
)

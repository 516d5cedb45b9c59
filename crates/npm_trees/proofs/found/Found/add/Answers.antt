-- The place was found before, or it comes last.
use Rattle.npm_trees.proofs.Reaching.{fresh_added, known_added}
use Rattle.npm_trees.proofs.found.Found.add.Goals as goal

pub returns-then-contains : goal.returns-then-contains
returns-then-contains c = known_added c.args.number c.args.self.now c.requires (cc (c.contains.ensures, c.if-contains.true))

pub returns : goal.returns
returns c = fresh_added c.args.number c.args.self.now _ c.requires c.in_ok-push.ensures.items c.in_ok-insert.ensures.updates.0

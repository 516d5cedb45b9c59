-- Those so far may stand there.
use Rattle.npm_trees.specs.Whole.{MayStand}
use Rattle.npm_trees.specs.declared.tree.Place.{Place}
use Rattle.npm_trees.proofs.Indexed.{UpTo}
use Rattle.npm_trees.proofs.whole.may_all_stand.Given as goal

abbrev pub invariant-loop-number : goal.invariant-loop-number
invariant-loop-number l = UpTo (λ number (place : Place). MayStand l.places l.documents number place place.stands) l.places l.number

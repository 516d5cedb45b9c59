-- Those so far are told where they are left out.
use Rattle.std.proofs.Common.{◌↔◌}
use Rattle.std.specs.List.{Contains}
use Rattle.npm_trees.specs.LeftOut.{IsLeftOut}
use Rattle.npm_trees.specs.declared.tree.Ask.{Ask}
use Rattle.npm_trees.proofs.Indexed.{UpTo}
use Rattle.npm_trees.proofs.left_out.are_left_out.Given as goal

abbrev pub invariant-loop-number : goal.invariant-loop-number
invariant-loop-number l = UpTo (λ number (ask : Ask). Contains l.left_out number ↔ IsLeftOut l.places ask) l.asks l.number

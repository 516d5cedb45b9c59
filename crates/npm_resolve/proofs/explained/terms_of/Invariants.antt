-- Those so far are those of the terms so far.
use Rattle.std.proofs.Common.{take}
use Rattle.std.specs.List.{AllZip}
use Rattle.npm_resolve.specs.Explanations.{IsTerm}
use Rattle.npm_resolve.proofs.explained.terms_of.Given as goal

abbrev pub invariant-loop-term : goal.invariant-loop-term
invariant-loop-term l = AllZip (IsTerm l.posed) (take l.term-index l.terms) l.found.items

-- Those so far belong to the demands so far.
use Rattle.std.proofs.Common.{take}
use Rattle.std.specs.List.{AllZip}
use Rattle.npm_resolve.specs.Explanations.{IsCulprit}
use Rattle.npm_resolve.proofs.culprits.all_told.Given as goal

abbrev pub invariant-loop-place : goal.invariant-loop-place
invariant-loop-place l = AllZip (IsCulprit l.posed) (take l.place l.demands) l.culprits.items

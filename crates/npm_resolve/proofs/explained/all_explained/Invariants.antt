-- Those so far belong to the lines so far.
use Rattle.std.proofs.Common.{take}
use Rattle.std.specs.List.{AllZip}
use Rattle.npm_resolve.specs.Explanations.{IsReasonOf}
use Rattle.npm_resolve.proofs.explained.all_explained.Given as goal

abbrev pub invariant-loop-line : goal.invariant-loop-line
invariant-loop-line l = AllZip (IsReasonOf l.posed) (take l.line-index l.lines) l.reasons.items

-- The patterns that are left decide.
use Rattle.std.proofs.Common.{◌≡◌, drop}
use Rattle.serde_json.specs.View.{items_view}
use Rattle.npm_lock.specs.Private.PatternSteps as PatternSteps
use Rattle.npm_lock.proofs.workspace.has_unknown.Given as goal

abbrev pub invariant-loop-pattern : goal.invariant-loop-pattern
invariant-loop-pattern l = PatternSteps.has_unknown (items_view l.patterns)
    ≡ PatternSteps.has_unknown (items_view (drop l.pattern-index l.patterns))

-- The patterns so far, and those that are left, are all patterns.
use Rattle.std.proofs.Common.{◌≡◌, ◌⊎◌, ◌↔◌, ℕ, List, IsTrue, drop, false}
use Rattle.serde_json.specs.View.{items_view}
use Rattle.npm_lock.specs.Private.Patterns.{HasMatched}
use Rattle.npm_lock.specs.Private.PatternSteps as PatternSteps
use Rattle.npm_lock.proofs.workspace.in_sets.Given as goal

abbrev pub invariant-loop-pattern : goal.invariant-loop-pattern
invariant-loop-pattern l = record {
  unread : l.made.has_unread ≡ false;
  read : PatternSteps.has_unknown (items_view (drop l.pattern-index l.patterns)) ≡ false;
  matched : (folder : List ℕ)
      → (HasMatched l.made folder ⊎ IsTrue (PatternSteps.has_matched folder (items_view (drop l.pattern-index l.patterns))))
      ↔ IsTrue (PatternSteps.has_matched folder (items_view l.patterns));
}

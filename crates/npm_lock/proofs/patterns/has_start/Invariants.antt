-- No start so far is one of the texts, and the flag says whether a part begins here.
use Rattle.std.proofs.Common.{◌≡◌, take}
use Rattle.npm_lock.specs.Private.PatternSteps.{is_whole}
use Rattle.npm_lock.proofs.StarPatterns.{HasNone}
use Rattle.npm_lock.proofs.patterns.has_start.Given as goal

abbrev pub invariant-loop-at : goal.invariant-loop-at
invariant-loop-at l = record {
  part : l.is_part ≡ is_whole (take l.at l.folder);
  none : HasNone l.texts l.is_tree l.folder l.at;
}

-- The parts that are left decide.
use Rattle.std.proofs.Common.{◌≡◌, length, true}
use denote.Shadow.{shadow}
use denote.Text.{Utf8}
use Rattle.npm_lock.specs.PatternGrammar.{parts_of}
use Rattle.npm_lock.specs.Private.PatternSteps.{are_turned}
use Rattle.npm_lock.proofs.pattern.turns.Given as goal

abbrev pub invariant-parts : goal.invariant-parts
invariant-parts l = record {
  text : shadow (Utf8 l.left);
  same : are_turned l.is_up (parts_of l.left) ≡ are_turned true (parts_of l.pattern);
}

abbrev pub decreases-parts : goal.decreases-parts
decreases-parts l = length l.left

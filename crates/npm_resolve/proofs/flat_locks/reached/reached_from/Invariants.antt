-- What was seen so far is reached, and what it leads to is seen or waits.
use Rattle.std.proofs.Common.{map}
use Rattle.serde_json.specs.View.{view}
use Rattle.npm_resolve.specs.Installed.{installed_value}
use Rattle.npm_resolve.specs.Private.Reaching.{AreHeld}
use Rattle.npm_resolve.proofs.flat_locks.reached.reached_from.Given as goal

abbrev pub invariant-loop : goal.invariant-loop
invariant-loop l = AreHeld (view l.root) (map installed_value l.installed) l.groups l.reached

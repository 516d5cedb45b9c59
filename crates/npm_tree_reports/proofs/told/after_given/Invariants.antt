-- Those so far are among the dependencies of the tree.
use Rattle.std.proofs.Common.{All, take}
use Rattle.npm_overrides.specs.Asks.{ask_value}
use Rattle.npm_overrides.specs.declared.asks.Ask.{Ask as AskOfManifest}
use Rattle.npm_tree_reports.specs.Told.{IsAmong}
use Rattle.npm_tree_reports.proofs.told.after_given.Given as goal

abbrev pub invariant-loop-one : goal.invariant-loop-one
invariant-loop-one l = All (λ (one : AskOfManifest). IsAmong l.places l.asks l.number (ask_value one)) (take l.one-index l.given)

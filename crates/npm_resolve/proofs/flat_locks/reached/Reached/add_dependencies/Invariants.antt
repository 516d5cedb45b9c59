-- The dependencies so far were added, and those of the iterator are left.
use Rattle.serde_json.specs.View.{view}
use Rattle.npm_packages.specs.Lemmas.NameLists.{AreAsked, names_of}
use Rattle.npm_resolve.specs.Reached.{Asks}
use Rattle.npm_resolve.specs.Private.Reaching.{AreBegun}
use Rattle.npm_resolve.proofs.flat_locks.reached.Reached.add_dependencies.Given as goal

abbrev pub invariant-loop-name : goal.invariant-loop-name
invariant-loop-name l = record {
  asked : AreAsked (view l.asker) l.is_installed l.name-iterator;
  begun : AreBegun (Asks (view l.asker) l.is_installed l.groups) (names_of l.name-iterator) l.initial.self l.self;
}

-- What is asked so far, and then what is asked of the names that are left, is all that is asked.
use Rattle.std.proofs.Common.{◌≡◌, ◌++◌, map, not}
use Rattle.std.specs.List.{flat_map}
use Rattle.serde_json.specs.View.{view}
use Rattle.npm_packages.specs.Lemmas.NameLists.{AreAsked, names_of}
use Rattle.npm_packages.specs.Rules.{rule_at}
use Rattle.npm_resolve.specs.Asks.{ask_value, asks_on, is_root}
use Rattle.npm_resolve.proofs.candidates.asks.all_asks.Given as goal

abbrev pub invariant-loop-name : goal.invariant-loop-name
invariant-loop-name l = record {
  asked : AreAsked (view l.manifest) (not (is_root l.owner)) l.name-iterator;
  found : map ask_value l.asks.items ++ flat_map (asks_on (view l.manifest) l.owner (rule_at l.rules) l.omits) (names_of l.name-iterator)
      ≡ flat_map (asks_on (view l.manifest) l.owner (rule_at l.rules) l.omits) (names_of l.initial.name-iterator);
}

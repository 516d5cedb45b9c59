-- The asks so far, and before those by the names that are left, are all of the manifest.
use Rattle.std.proofs.Common.{◌≡◌, ◌++◌, List, map, not}
use Rattle.std.specs.List.{AllZip}
use Rattle.serde_json.specs.View.{view}
use Rattle.npm_packages.specs.Lemmas.NameLists.{AreAsked, names_of}
use Rattle.npm_overrides.specs.Asks.{AskValue, IsAsk, ask_value, is_top}
use Rattle.npm_overrides.specs.Rules.{rule_value}
use Rattle.npm_overrides.proofs.asks.asks_of.Given as goal

abbrev pub invariant-loop-name : goal.invariant-loop-name
invariant-loop-name l = record {
  asked : AreAsked (view l.manifest) (not (is_top l.asker.owner)) l.name-iterator;
  found : (later : List AskValue)
      → AllZip (IsAsk (view l.manifest) l.asker.owner (map rule_value l.rules.list.items) l.counts l.peers_count)
      (names_of l.name-iterator) later
      → (found : List AskValue)
      × AllZip (IsAsk (view l.manifest) l.asker.owner (map rule_value l.rules.list.items) l.counts l.peers_count)
      (names_of l.initial.name-iterator) found
      × (map ask_value l.asks.items ++ later ≡ map ask_value l.initial.asks.items ++ found);
}

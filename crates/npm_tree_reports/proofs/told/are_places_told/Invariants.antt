-- The places so far are told.
use Rattle.std.proofs.Common.{◌≡◌, ◌<◌, ℕ, Some, map, slice_get}
use Rattle.npm_overrides.specs.Rules.{rule_value}
use Rattle.npm_tree_reports.specs.Told.{IsPlaceTold}
use Rattle.npm_trees.specs.declared.tree.Place.{Place}
use Rattle.npm_tree_reports.proofs.told.are_places_told.Given as goal

abbrev pub invariant-loop-number : goal.invariant-loop-number
invariant-loop-number l = (k : ℕ) (place : Place) → k < l.number → slice_get l.places k ≡ Some place
    → IsPlaceTold l.documents l.tree (map rule_value l.rules.list.items) k place

-- What the members that are left add to the map is what all add to the first one.
use Rattle.std.proofs.Common.{◌≡◌, ℕ, List, string_cmp}
use Rattle.std.specs.List.Sorted.{IsStrictlySortedBy}
use Rattle.std.specs.Map.{keys_of}
use Rattle.std.specs.Option.{option_or}
use Rattle.serde_json.specs.View.{members_view, view}
use Rattle.npm_packages.specs.Names.{at_name}
use Rattle.npm_packages.specs.Private.Groups.{asked_among}
use Rattle.npm_packages.proofs.asked.add_group.Given as goal

abbrev pub invariant-loop-name : goal.invariant-loop-name
invariant-loop-name l = record {
  sorted : IsStrictlySortedBy string_cmp (keys_of l.name-iterator);
  left : (name : List ℕ)
      → option_or (asked_among (view l.asker) l.is_needed l.is_peer l.is_dev name (members_view l.name-iterator))
      (at_name l.all name)
      ≡ option_or (asked_among (view l.asker) l.is_needed l.is_peer l.is_dev name
      (members_view l.initial.name-iterator))
      (at_name l.fn.all name);
}

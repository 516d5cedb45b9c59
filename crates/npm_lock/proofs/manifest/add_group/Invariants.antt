-- The names that are left, after those that were taken, are all names of both groups.
use Rattle.std.proofs.Common.{◌≡◌, ◌⊎◌, ◌+◌, ℕ, List, ◌++◌, map, length, option_and_then}
use Rattle.std.specs.List.{filter_map}
use Rattle.std.specs.Option.{IsSome}
use Rattle.serde_json.specs.Find.{get, get_member}
use Rattle.serde_json.specs.View.{view}
use Rattle.npm_texts.specs.ObjectKeys.{keys_of}
use Rattle.npm_lock.specs.Mismatches.{AreGroupNames, group_text, mismatch_of, mismatch_value}
use Rattle.npm_lock.specs.Private.GroupSpecs.{AreSorted, left_of}
use Rattle.npm_lock.proofs.GroupWalk.{AreNamesOf}
use Rattle.npm_lock.proofs.manifest.add_group.Given as goal

abbrev pub invariant-names : goal.invariant-names
invariant-names l = record {
  sorted : AreSorted (left_of l.specs);
  sorted_locked : AreSorted (left_of l.locked);
  at : (name : List ℕ)
      → IsSome (get_member name (left_of l.specs)) ⊎ IsSome (get_member name (left_of l.locked))
      → (option_and_then (get name) (get (group_text l.group) (view l.sides.manifest.now)) ≡ get_member name
      (left_of l.specs))
      × (option_and_then (get name) (get (group_text l.group) (view l.sides.entry.now)) ≡ get_member name
      (left_of l.locked));
  found : (later : List (List ℕ)) → AreNamesOf (left_of l.specs) (left_of l.locked) later
      → (names : List (List ℕ))
      × AreGroupNames (view l.sides.manifest.now) (view l.sides.entry.now) l.group names
      × (map mismatch_value l.initial.list.items ++ filter_map
      (mismatch_of l.sides.folder.now (view l.sides.manifest.now) (view l.sides.entry.now) l.group) names
      ≡ map mismatch_value l.list.items ++ filter_map (mismatch_of l.sides.folder.now (view l.sides.manifest.now)
      (view l.sides.entry.now) l.group) later);
}

abbrev pub decreases-names : goal.decreases-names
decreases-names l = length (keys_of (left_of l.specs)) + length (keys_of (left_of l.locked))

-- The keys so far are those of the texts so far.
use Rattle.std.proofs.Common.{map, string_bytes}
use Rattle.std.specs.List.{All}
use Rattle.serde_json.specs.View.{view}
use Rattle.npm_pick.specs.Private.Keeping.{IsKeyRead, key_value}
use Rattle.npm_pick.proofs.Picks.{AreSoFar}
use Rattle.npm_pick.proofs.kept.picked_keys.Given as goal

abbrev pub invariant-loop-text : goal.invariant-loop-text
invariant-loop-text l = record {
  picked : AreSoFar (view l.packument) l.options string_bytes l.wanted l.text-index (map key_value l.keys.items);
  read : All IsKeyRead (map key_value l.keys.items);
}

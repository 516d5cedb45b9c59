-- The keys so far are read of the texts so far.
use Rattle.std.proofs.Common.{◌≡◌, map, take}
use Rattle.std.specs.List.{All}
use Rattle.npm_pick.specs.Private.Keeping.{IsKeyRead, key_value, texts_of}
use Rattle.npm_pick.proofs.key.keys_in_order.Given as goal

abbrev pub invariant-loop-text : goal.invariant-loop-text
invariant-loop-text l = record {
  texts : texts_of (map key_value l.keys.items) ≡ map (λ text. text.now) (take l.text-index l.texts);
  read : All IsKeyRead (map key_value l.keys.items);
}

-- The texts so far are those of the keys so far.
use Rattle.std.proofs.Common.{◌≡◌, map, take}
use Rattle.npm_pick.specs.Private.Keeping.{key_value, texts_of}
use Rattle.npm_pick.proofs.key.texts_of_keys.Given as goal

abbrev pub invariant-loop-key : goal.invariant-loop-key
invariant-loop-key l =
    map (λ text. text.now) l.texts.items ≡ texts_of (map key_value (take l.key-index l.keys))

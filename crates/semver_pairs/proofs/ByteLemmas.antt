-- Known bytes, call by call.
use Rattle.std.proofs.Common.{◌≡◌, ◌≢◌, ℕ, ◌+◌, ◌-◌, ◌<◌, ◌≤◌, List, [], length, take, drop, Option}
use Rattle.std.proofs.Common.{ap, arith, take-add}
use Rattle.std.proofs.lemmas.Grind.{common_steps}
use Rattle.std.proofs.lemmas.List.{take_rest}
use Rattle.std.specs.Io.KnownBytes.{Appends}
use Rattle.std.proofs.KnownBytes.{Appends-trans}

-- a write took a prefix of the rest from a place on
pub appends_more : (old mid new : Option (List ℕ)) (text : List ℕ) (at n : ℕ)
    → Appends old mid (take at text) → Appends mid new (take n (take (length text - at) (drop at text)))
    → Appends old new (take (at + n) text)
appends_more old mid new text at n first then =
    rw (take-add at n text) (Appends-trans old mid new _ _ first (rw (take_rest text at) at then))

-- something is left from a place within the text on
pub rest_some : (text : List ℕ) (at : ℕ) → at < length text → take (length text - at) (drop at text) ≢ []
rest_some text at within is =
    let none : length (take (length text - at) (drop at text)) ≡ 0 = ap length is in grind (arith, common_steps, none)

-- so many bytes of the rest end inside the text
pub rest_within : (text : List ℕ) (at n : ℕ) → at < length text
    → n ≤ length (take (length text - at) (drop at text)) → at + n ≤ length text
rest_within text at n within most = grind (arith, common_steps, most)

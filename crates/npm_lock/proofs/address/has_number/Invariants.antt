-- The bytes that are left decide.
use Rattle.std.proofs.Common.{◌≡◌, drop, false}
use Rattle.npm_lock.specs.Addresses.{has_number}
use Rattle.npm_lock.proofs.address.has_number.Given as goal

abbrev pub invariant-loop-byte : goal.invariant-loop-byte
invariant-loop-byte l = has_number false l.stem ≡ has_number l.is_after_hyphen (drop l.byte-index l.stem)

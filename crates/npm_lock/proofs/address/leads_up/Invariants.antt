-- The bytes that are left decide.
use Rattle.std.proofs.Common.{◌≡◌, length}
use Rattle.npm_lock.specs.Addresses.{leads_up}
use Rattle.npm_lock.proofs.address.leads_up.Given as goal

abbrev pub invariant-bytes : goal.invariant-bytes
invariant-bytes l = leads_up l.left ≡ leads_up l.path

abbrev pub decreases-bytes : goal.decreases-bytes
decreases-bytes l = length l.left

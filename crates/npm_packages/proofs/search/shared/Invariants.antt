-- The bytes so far are inside both, and the same.
use Rattle.std.proofs.Common.{◌≡◌, ◌≤◌, ◌-◌, take}
use Rattle.npm_packages.proofs.search.shared.Given as goal

abbrev pub invariant-bytes : goal.invariant-bytes
invariant-bytes l = record { inside : l.same ≤ l.end; alike : take l.same l.left ≡ take l.same l.folder }

abbrev pub decreases-bytes : goal.decreases-bytes
decreases-bytes l = l.end - l.same

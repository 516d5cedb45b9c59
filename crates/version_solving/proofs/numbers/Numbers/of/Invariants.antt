-- The map has the names from the place on.
use Rattle.std.proofs.Common.{◌≡◌, ℕ, List, drop}
use Rattle.version_solving.specs.Naming.{place_from}
use Rattle.version_solving.specs.Private.Numbers.{at_name}
use Rattle.version_solving.proofs.numbers.Numbers.of.Given as goal

abbrev pub invariant-loop-place : goal.invariant-loop-place
invariant-loop-place l = (name : List ℕ) → at_name l.by_name name ≡ place_from l.place (drop l.place l.listed) name

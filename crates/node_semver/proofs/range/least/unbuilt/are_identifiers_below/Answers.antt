use native.Mathlib.Omega.{arith}
use Rattle.node_semver.proofs.Least.ZeroLists.{answered, in-both, in-first-less, in-first-not, in-second}
use Rattle.node_semver.proofs.range.least.unbuilt.are_identifiers_below.Goals as goal

pub returns-in-true-true : goal.returns-in-true-true
returns-in-true-true c = grind (arith, answered, in-both)

pub returns-then-is_lt : goal.returns-then-is_lt
returns-then-is_lt c = grind (arith, in-first-less)

pub returns-else-is_lt : goal.returns-else-is_lt
returns-else-is_lt c = grind (arith, in-first-not)

pub returns-then-not-is_empty : goal.returns-then-not-is_empty
returns-then-not-is_empty c = grind (arith, answered, in-second)

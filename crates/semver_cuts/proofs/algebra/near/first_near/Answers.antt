use Rattle.semver_cuts.proofs.algebra.near.first_near.Goals as goal

pub returns-then-is_first_above : goal.returns-then-is_first_above
returns-then-is_first_above g c = c.is_first_above.ensures c.if-is_first_above.true

pub returns-then-is_first_above-2 : goal.returns-then-is_first_above-2
returns-then-is_first_above-2 g c = c.is_first_above-2.ensures c.if-is_first_above-2.true

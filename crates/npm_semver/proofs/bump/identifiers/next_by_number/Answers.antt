use Rattle.std.proofs.Common.{inr}
use Rattle.npm_semver.proofs.Versions.Bumps.{no_next_at_limit}
use Rattle.npm_semver.proofs.bump.identifiers.next_by_number.Goals as goal

pub returns-in-Some-clause-refused : goal.returns-in-Some-clause-refused
returns-in-Some-clause-refused c =
    inr (no_next_at_limit _ _ _ _ _ c.in-Some.ensures.found c.if-number-ge-MAX_SAFE_INTEGER.true)

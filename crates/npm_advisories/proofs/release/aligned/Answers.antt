-- Each kind of cut.
use Rattle.npm_advisories.proofs.ReleaseCuts.{aligned-after, aligned-before, aligned-end, aligned-start}
use Rattle.npm_advisories.proofs.release.aligned.Goals as goal

pub returns-in-Before : goal.returns-in-Before
returns-in-Before c = rw (c.in-Before.is, c.release_of.ensures) (aligned-before c.in-Before.version)

pub returns-in-After : goal.returns-in-After
returns-in-After c = rw c.in-After.is (aligned-after c.in-After.version c.release_above.result c.release_above.ensures)

pub returns-in-Start : goal.returns-in-Start
returns-in-Start c = rw c.in-Start.is aligned-start

pub returns-in-End : goal.returns-in-End
returns-in-End c = rw c.in-End.is aligned-end

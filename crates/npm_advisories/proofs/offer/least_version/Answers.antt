-- `0.0.0-0` is the text of the least version.
use Rattle.node_semver.specs.Versions.{least_of}
use Rattle.npm_advisories.proofs.LeastVersion.{least-text}
use Rattle.npm_advisories.proofs.offer.least_version.Goals as goal

pub unreachable-requires : goal.unreachable-requires
unreachable-requires c = c.in-Err.ensures.only (least_of 0 0 0) least-text

pub returns : goal.returns
returns c = c.in-Ok.ensures.only (least_of 0 0 0) least-text

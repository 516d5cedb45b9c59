use Rattle.std.proofs.Common.{rules}
use Rattle.node_semver.proofs.range.least.least_version.Goals as goal

pub returns-in-Some : goal.returns-in-Some
returns-in-Some c = let least = c.in-Some.ensures.least c.args.included in search rules

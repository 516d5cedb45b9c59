use Rattle.semver_pairs.proofs.LineLemmas.{joined-divided}
use Rattle.semver_pairs.proofs.laws.joined_lines_are_the_bytes.Goals as goal

pub returns : goal.returns
returns c = joined-divided

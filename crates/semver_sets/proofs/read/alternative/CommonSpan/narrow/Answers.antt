use Rattle.semver_sets.specs.WordEnds.{ends_seen}
use Rattle.semver_sets.proofs.Sets.Merging.{narrowed}
use Rattle.semver_sets.proofs.read.alternative.CommonSpan.narrow.Goals as goal

pub returns-clause-merged : goal.returns-clause-merged
returns-clause-merged c =
    narrowed c.args.self.now c.narrow_to.new.self c.in_ok-lower.lower c.in_ok-upper.upper (ends_seen c.args.word)
    c.in_ok-lower.ensures c.in_ok-upper.ensures c.narrow_to.ensures

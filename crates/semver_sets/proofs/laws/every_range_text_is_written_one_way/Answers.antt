use Rattle.semver_sets.proofs.Ranges.AlternativeLemmas.{written-exists, written-unique}
use Rattle.semver_sets.proofs.laws.every_range_text_is_written_one_way.Goals as goal

pub returns : goal.returns
returns c = record { exists = written-exists; only = written-unique }

use Rattle.semver_keys.proofs.number.+add_bytes.Given as goal

abbrev pub decreases-add_bytes : goal.decreases-add_bytes
decreases-add_bytes l = l.count

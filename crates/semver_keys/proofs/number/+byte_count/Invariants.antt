use Rattle.semver_keys.proofs.number.+byte_count.Given as goal

abbrev pub decreases-byte_count : goal.decreases-byte_count
decreases-byte_count l = l.limit

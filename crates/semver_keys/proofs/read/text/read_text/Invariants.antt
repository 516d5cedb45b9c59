use Rattle.std.proofs.Common.{◌≡◌, ◌++◌, ℕ, List, length}
use Rattle.semver_keys.specs.Private.Reading.{written}
use Rattle.semver_keys.proofs.read.text.read_text.Given as goal

abbrev pub invariant-bytes : goal.invariant-bytes
invariant-bytes l = (text : List ℕ) × (written text ++ l.rest ≡ l.key)

abbrev pub decreases-bytes : goal.decreases-bytes
decreases-bytes l = length l.rest

use Rattle.std.proofs.Common.{◌≡◌, length}
use Rattle.npm_sets.specs.PartialTexts.{has_none_padded}
use Rattle.npm_sets.proofs.partial.has_none_padded.Given as goal

abbrev pub invariant-bytes : goal.invariant-bytes
invariant-bytes l = has_none_padded l.rest ≡ has_none_padded l.text

abbrev pub decreases-bytes : goal.decreases-bytes
decreases-bytes l = length l.rest

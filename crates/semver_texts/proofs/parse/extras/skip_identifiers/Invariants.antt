use Rattle.std.proofs.Common.{◌≡◌, length}
use Rattle.semver_texts.specs.Reading.{list_rest}
use Rattle.semver_texts.proofs.parse.extras.skip_identifiers.Given as goal

-- the rest of the list from here on is that of the text
abbrev pub invariant-ones : goal.invariant-ones
invariant-ones l = list_rest l.rest ≡ list_rest l.text

abbrev pub decreases-ones : goal.decreases-ones
decreases-ones l = length l.rest

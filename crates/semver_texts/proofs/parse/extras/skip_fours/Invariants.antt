use Rattle.std.proofs.Common.{◌≡◌, length}
use Rattle.semver_texts.specs.Reading.{list_rest}
use Rattle.semver_texts.proofs.parse.extras.skip_fours.Given as goal

-- the rest of the list from here on is that of the text
abbrev pub invariant-fours : goal.invariant-fours
invariant-fours l = list_rest l.rest ≡ list_rest l.text

abbrev pub decreases-fours : goal.decreases-fours
decreases-fours l = length l.rest

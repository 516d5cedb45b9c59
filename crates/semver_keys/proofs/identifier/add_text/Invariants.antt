use Rattle.std.proofs.Common.{◌≡◌, ◌++◌, length}
use Rattle.semver_keys.specs.IdentifierKey as Keys
use Rattle.semver_keys.specs.Private.Grown.{IsGrown}
use Rattle.semver_keys.proofs.identifier.add_text.Given as goal

abbrev pub invariant-bytes : goal.invariant-bytes
invariant-bytes l = (l.key.items ++ Keys.text_key l.rest ≡ l.initial.key.items ++ Keys.text_key l.initial.rest)
    × IsGrown l.initial.key.items l.key.items

abbrev pub decreases-bytes : goal.decreases-bytes
decreases-bytes l = length l.rest

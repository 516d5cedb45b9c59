use Rattle.std.proofs.Common.{rules}
use Rattle.npm_semver.proofs.Versions.Bumps.{no_next_with, other-reason}
use Rattle.npm_semver.proofs.bump.identifiers.next_by_identifier.Goals as goal

pub returns-then-begins_numbered-clause-refused : goal.returns-then-begins_numbered-clause-refused
returns-then-begins_numbered-clause-refused c =
    other-reason _ _ _ c.next_by_number.result
    (λ e none. no_next_with _ _ _ (c.if-begins_numbered.ensures.0 (search rules)) none)
    c.next_by_number.ensures.refused

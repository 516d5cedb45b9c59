-- A key that is no version, or was published too late or restricted, cannot be chosen.
use Rattle.std.proofs.Common.{◌≡◌, ◌∙◌, sym}
use Rattle.npm_resolve.proofs.candidates.listed.candidate_of.Goals as goal

pub returns-in_default-clause-none : goal.returns-in_default-clause-none
returns-in_default-clause-none c = λ eligible.
    let none = rw c.in_default.is at c.installed_version.ensures.none in absurd (none eligible.version eligible.read)

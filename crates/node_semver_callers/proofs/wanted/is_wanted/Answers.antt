-- The result is what the range admits, and that is what its text admits.
use Rattle.node_semver_callers.proofs.wanted.is_wanted.Goals as goal

pub returns : goal.returns
returns c =
    let means = c.in_ok-range.ensures.means c.args.version.now in
    (λ yes. means.0 (c.satisfies.ensures.0 yes), λ asked. c.satisfies.ensures.1 (means.1 asked))

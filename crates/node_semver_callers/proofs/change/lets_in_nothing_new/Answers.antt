-- No version is found exactly where the old range admits what the new one does.
use Rattle.std.proofs.Common.{rules}
use Rattle.node_semver_callers.proofs.change.lets_in_nothing_new.Goals as goal

pub returns : goal.returns
returns c =
    let admitted = c.in_ok-least_beyond.ensures.admitted in
    (λ yes. admitted.0 (search rules), λ all. let none = admitted.1 all in search rules)

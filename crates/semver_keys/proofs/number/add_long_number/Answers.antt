use Rattle.std.proofs.lemmas.Result.{on_err_weaker}
use Rattle.semver_keys.proofs.Growing.{grown_after}
use Rattle.semver_keys.proofs.number.add_long_number.Goals as goal

pub returns-clause-grown : goal.returns-clause-grown
returns-clause-grown c =
    on_err_weaker c.add_bytes.result (grown_after _ _ _ _ c.in_ok-push.ensures.items) c.add_bytes.ensures.grown

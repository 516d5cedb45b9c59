use Rattle.std.proofs.Common.{◌∙◌}
use Rattle.semver_keys.proofs.Growing.{at_err, grown_added}
use Rattle.semver_keys.proofs.number.+add_bytes.Goals as goal

pub returns-in_err-push-clause-grown : goal.returns-in_err-push-clause-grown
returns-in_err-push-clause-grown t c =
    at_err _ (grown_added _ _ _ (c.in_err-push.ensures.items ∙ c.in_ok-add_bytes.ensures.added))

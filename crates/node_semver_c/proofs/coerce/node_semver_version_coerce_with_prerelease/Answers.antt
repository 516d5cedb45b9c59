use Rattle.std.proofs.Common.{ℕ, List, subst}
use Rattle.node_semver_c.specs.Answers.{IsFullCoercion, IsFound}
use Rattle.node_semver_c.proofs.coerce.node_semver_version_coerce_with_prerelease.Goals as goal

pub returns-in-Ok-clause-found : goal.returns-in-Ok-clause-found
returns-in-Ok-clause-found c _ =
    subst (λ (text : List ℕ). IsFound (IsFullCoercion c.args.rtl text) c.coerce_with_prerelease.result
    c.coerce_with_prerelease.new.answer.value)
    c.in-Ok.ensures.cases.0 c.coerce_with_prerelease.ensures

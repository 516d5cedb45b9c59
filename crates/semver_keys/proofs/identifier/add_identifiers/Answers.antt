use Rattle.std.proofs.Common.{refl, arith}
use Rattle.semver_keys.proofs.Growing.{at_err, grown_added, grown_none, grown_twice}
use Rattle.semver_keys.proofs.IdentifierRules.{identifier_rules}
use Rattle.semver_keys.proofs.identifier.add_identifiers.Goals as goal

pub identifiers-init : goal.identifiers-init
identifiers-init c = (refl, grown_none _ _ refl, λ all. all)

pub returns-in_err-add_identifier-clause-grown : goal.returns-in_err-add_identifier-clause-grown
returns-in_err-add_identifier-clause-grown c =
    at_err _ (grown_twice _ _ _ c.identifiers.invariant.1 c.in_err-add_identifier.ensures.grown)

pub identifiers-preserved : goal.identifiers-preserved
identifiers-preserved c = (
  grind (arith, identifier_rules),
  grown_twice _ _ _ c.identifiers.invariant.1 (grown_added _ _ _ c.in_ok-add_identifier.ensures.added),
  grind (arith, c.in_ok-add_identifier.ensures.words, c.identifiers.invariant.2),
)

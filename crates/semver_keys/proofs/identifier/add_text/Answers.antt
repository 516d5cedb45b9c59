use Rattle.std.proofs.Common.{refl, arith}
use Rattle.semver_keys.proofs.Growing.{at_err, grown_added, grown_after, grown_none, grown_twice}
use Rattle.semver_keys.proofs.IdentifierRules.{identifier_rules}
use Rattle.semver_keys.proofs.identifier.add_text.Goals as goal

pub bytes-init : goal.bytes-init
bytes-init c = (refl, grown_none _ _ refl)

pub returns-in_err-add_byte-clause-grown : goal.returns-in_err-add_byte-clause-grown
returns-in_err-add_byte-clause-grown c = at_err _ (grown_after _ _ _ _ c.in_ok-push.ensures.items
    (grown_twice _ _ _ c.bytes.invariant.1 c.in_err-add_byte.ensures.grown))

pub bytes-preserved : goal.bytes-preserved
bytes-preserved c = (
  grind (arith, identifier_rules),
  grown_twice _ _ _ c.bytes.invariant.1 (grown_added _ _ _ c.in_ok-add_byte.ensures.added),
)

pub returns-in_err-push-2-clause-grown : goal.returns-in_err-push-2-clause-grown
returns-in_err-push-2-clause-grown c = at_err _ (grown_after _ _ _ _ c.in_ok-push.ensures.items
    (grown_twice _ _ _ c.bytes.invariant.1 (grown_none _ _ c.in_err-push-2.ensures.items)))

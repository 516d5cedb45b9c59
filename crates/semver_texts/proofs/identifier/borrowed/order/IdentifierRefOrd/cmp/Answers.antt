use Rattle.semver_texts.specs.Lemmas.Order.{identifier_order}
use Rattle.semver_texts.proofs.identifier.borrowed.order.IdentifierRefOrd.cmp.Goals as goal

pub returns-clause-order : goal.returns-clause-order
returns-clause-order c = identifier_order _ _ _ c.cmp_identifiers.ensures

use Rattle.std.proofs.Common.{rules}
use Rattle.semver_texts.specs.Lemmas.Order.{identifier_order}
use Rattle.semver_texts.proofs.identifier.order.IdentifierOrd.cmp.Goals as goal

pub returns-clause-order : goal.returns-clause-order
returns-clause-order c = identifier_order _ _ _ (search rules)

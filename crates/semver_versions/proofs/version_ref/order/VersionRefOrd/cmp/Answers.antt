use Rattle.std.proofs.Common.{rules}
use Rattle.semver_texts.specs.Lemmas.Order.{triples_decide, version_order}
use Rattle.semver_versions.proofs.version_ref.order.VersionRefOrd.cmp.Goals as goal

pub returns-in-Equal-clause-order : goal.returns-in-Equal-clause-order
returns-in-Equal-clause-order c = version_order _ _ _ (search rules)

pub returns-in_default : goal.returns-in_default
returns-in_default c =
    let e = triples_decide c.args.self.now c.args.other.now c.cmp.result (search rules) c.in_default.not-Equal in
    record { answer = e; order = version_order _ _ _ e }

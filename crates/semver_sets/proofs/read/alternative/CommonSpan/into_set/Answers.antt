use Rattle.std.proofs.Common.{sym, ◌∙◌}
use Rattle.semver_sets.proofs.Sets.CommonSpan.{ends-below, no-set, some-set}
use Rattle.semver_sets.proofs.read.alternative.CommonSpan.into_set.Goals as goal
use Rattle.semver_sets.proofs.read.alternative.CommonSpan.into_set.Goals.{else-self-via-then-self+else-lt}
use Rattle.semver_sets.proofs.read.alternative.CommonSpan.into_set.Goals.{else-self-via-else-self}

pub between-requires : goal.between-requires
between-requires c = ends-below c.self.inside.lower c.self.inside.upper c.lt.result c.lt.ensures c.if-lt.true

pub returns-then-lt : goal.returns-then-lt
returns-then-lt c =
    let e = c.self.inside in
    some-set e.found e.lower e.upper c.args.self c.between.result c.if-self.true c.self.view_is
    (ends-below e.lower e.upper c.lt.result c.lt.ensures c.if-lt.true) c.between.ensures

pub returns-else-self : goal.returns-else-self
returns-else-self c =
    let e = c.self.inside in
    no-set e.found e.lower e.upper c.args.self c.self.view_is (λ came. elim c.else-self.branch [
      | else-self-via-then-self+else-lt w ↦ sym w.lt.ensures ∙ w.if-lt.false
      | else-self-via-else-self w ↦ cc (came, w.if-self.false)
    ])

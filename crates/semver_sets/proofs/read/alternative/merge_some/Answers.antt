use Rattle.std.proofs.Common.{Option, subst, sym}
use Rattle.std.specs.Prelude.{OnOk}
use Rattle.semver_sets.specs.Private.RangeViews.{IsNarrowed}
use Rattle.semver_sets.specs.Private.WordViews.{some_ends}
use Rattle.semver_sets.specs.declared.word.ends.WordEnds.{WordEnds}
use Rattle.semver_sets.proofs.read.alternative.merge_some.Goals as goal

pub returns-in-Some : goal.returns-in-Some
returns-in-Some c =
    subst
    (λ (o : Option WordEnds). OnOk c.narrow.result (IsNarrowed c.args.common.now (some_ends o) c.narrow.new.self))
    (sym c.in-Some.is) c.narrow.ensures.merged

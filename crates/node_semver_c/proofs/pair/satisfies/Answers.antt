use Rattle.std.proofs.Common.{subst}
use Rattle.node_semver_c.specs.Pair.{accepted, range_refused}
use Rattle.node_semver_c.proofs.Answered.{answered_as}
use Rattle.node_semver_c.proofs.pair.satisfies.Goals as goal
use Rattle.semver_sets.specs.Meaning.{RangeAdmits, TextAdmits}
use Rattle.node_semver.specs.RangeAnswer.{IsRangeAnswer}

pub returns-in-Ok-clause-reported : goal.returns-in-Ok-clause-reported
returns-in-Ok-clause-reported c =
    let read = subst (IsRangeAnswer c.args.range.now) c.in-Ok.is c.parse.ensures in
    accepted read.accepted (answered_as (RangeAdmits c.in-Ok.range) (TextAdmits c.args.range.now) c.args.version.now
    c.satisfies_range.result c.satisfies_range.new.answer c.satisfies_range.new.fault read.means
    c.satisfies_range.ensures.reported)

pub returns-in-Err-clause-reported : goal.returns-in-Err-clause-reported
returns-in-Err-clause-reported c =
    let read = subst (IsRangeAnswer c.args.range.now) c.in-Err.is c.parse.ensures in
    range_refused record { error = c.in-Err.error; is = read.refused; reported = c.report.ensures.reported }

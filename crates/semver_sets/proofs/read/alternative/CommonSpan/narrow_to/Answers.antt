use Rattle.std.proofs.Common.{subst, sym}
use Rattle.semver_cuts.specs.Ends.{span_between}
use Rattle.semver_sets.specs.Merging.{IsCommonSpan}
use Rattle.semver_sets.proofs.Sets.Merging.{merged-push}
use Rattle.semver_sets.proofs.read.alternative.CommonSpan.narrow_to.Goals as goal

pub returns : goal.returns
returns c = λ comparators merged.
    let e = c.self.inside in
    merged-push e.found e.lower e.upper c.keep_greatest.new.kept c.keep_least.new.kept
    (span_between c.args.lower c.args.upper) c.self.invariant c.keep_greatest.ensures c.keep_least.ensures comparators
    (subst (IsCommonSpan comparators) (sym c.self.view_is) merged)

use Rattle.std.proofs.Common.{◌≡◌, ◌++◌, take}
use Rattle.semver_cuts.specs.CommonSpans.{common_spans}
use Rattle.semver_cuts.proofs.algebra.common.common_ascending.Given as goal

abbrev pub invariant-loop-one : goal.invariant-loop-one
invariant-loop-one g l =
    g.S.Gather.gathered l.into ≡ g.S.Gather.gathered l.fn.into ++ common_spans g.T.Ord.cmp
    (take l.one-index l.ones) l.others

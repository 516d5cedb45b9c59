use Rattle.std.proofs.Common.{◌≡◌, ◌++◌, take}
use Rattle.semver_cuts.specs.CommonSpans.{common_with}
use Rattle.semver_cuts.proofs.algebra.common.common_until.Given as goal

abbrev pub invariant-loop-other : goal.invariant-loop-other
invariant-loop-other g l =
    g.S.Gather.gathered l.into ≡ g.S.Gather.gathered l.fn.into ++ common_with g.T.Ord.cmp l.one
    (take l.other-index l.others)

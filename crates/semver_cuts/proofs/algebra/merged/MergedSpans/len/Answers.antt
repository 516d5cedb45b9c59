use Rattle.std.proofs.lemmas.Grind.{common_steps}
use native.Mathlib.Omega.{arith}
use Rattle.std.proofs.lemmas.List.{length-map}
use Rattle.semver_cuts.proofs.Joining.JoinedPlaces.{merged-by}
use Rattle.semver_cuts.proofs.Joining.StartsCounted.{starts-counted}
use Rattle.semver_cuts.proofs.algebra.merged.MergedSpans.len.Goals as goal

pub returns-then-is_empty : goal.returns-then-is_empty
returns-then-is_empty g c = grind (arith, common_steps, merged-by g.T.Ord.cmp, starts-counted g.met.T.Ord.total)

pub returns-else-is_empty : goal.returns-else-is_empty
returns-else-is_empty g c =
    grind (arith, common_steps, merged-by g.T.Ord.cmp, length-map, starts-counted g.met.T.Ord.total)

use Rattle.node_semver_c.specs.Answers.{IsDifference}
use Rattle.node_semver_c.proofs.Found.{found_of}
use Rattle.node_semver_c.proofs.algebra.node_semver_range_difference.Goals as goal

pub returns-in-Ok : goal.returns-in-Ok
returns-in-Ok c =
    rw (← c.get.ensures, ← c.get-2.ensures) (found_of (IsDifference c.get.result.now c.get-2.result.now) c.in-Ok.found
    c.keep_range_found.result c.keep_range_found.new.held.value record {
      sets = c.in-Ok.ensures.sets;
      cuts = c.in-Ok.ensures.cuts;
      none = c.in-Ok.ensures.none;
      releases = c.in-Ok.ensures.releases;
      disjoint = c.in-Ok.ensures.disjoint;
      together = c.in-Ok.ensures.together;
      holds = c.in-Ok.ensures.holds;
    } c.keep_range_found.ensures)

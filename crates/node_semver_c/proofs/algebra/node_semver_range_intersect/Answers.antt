use Rattle.node_semver_c.specs.Answers.{IsIntersection}
use Rattle.node_semver_c.proofs.Found.{found_of}
use Rattle.node_semver_c.proofs.algebra.node_semver_range_intersect.Goals as goal

pub returns-in-Ok : goal.returns-in-Ok
returns-in-Ok c =
    rw (← c.get.ensures, ← c.get-2.ensures) (found_of (IsIntersection c.get.result.now c.get-2.result.now) c.in-Ok.found
    c.keep_range_found.result c.keep_range_found.new.held.value record {
      sets = c.in-Ok.ensures.sets;
      cuts = c.in-Ok.ensures.cuts;
      none = c.in-Ok.ensures.none;
      some = c.in-Ok.ensures.some;
      releases = c.in-Ok.ensures.releases;
      prereleases = c.in-Ok.ensures.prereleases;
      disjoint = c.in-Ok.ensures.disjoint;
      together = c.in-Ok.ensures.together;
      holds = c.in-Ok.ensures.holds;
    } c.keep_range_found.ensures)

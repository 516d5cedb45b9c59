use Rattle.node_semver_c.specs.Answers.{IsBeyond}
use Rattle.node_semver_c.proofs.Found.{found_of}
use Rattle.node_semver_c.proofs.algebra.node_semver_least_beyond.Goals as goal

pub returns-in-Ok : goal.returns-in-Ok
returns-in-Ok c =
    rw (← c.get.ensures, ← c.get-2.ensures) (found_of (IsBeyond c.get.result.now c.get-2.result.now) c.in-Ok.found
    c.keep_version_found.result c.keep_version_found.new.held.value record {
      least = c.in-Ok.ensures.least;
      none = c.in-Ok.ensures.none;
      admitted = c.in-Ok.ensures.admitted;
      build = c.in-Ok.ensures.build;
    } c.keep_version_found.ensures)

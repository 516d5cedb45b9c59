use Rattle.node_semver_c.specs.Answers.{IsMinimumContained}
use Rattle.node_semver_c.proofs.Found.{found_of}
use Rattle.node_semver_c.proofs.prereleases.node_semver_min_version_with_prereleases.Goals as goal

pub returns-in-Ok : goal.returns-in-Ok
returns-in-Ok c =
    rw (← c.get.ensures, ← c.with_prereleases.ensures) (found_of (IsMinimumContained c.with_prereleases.result) c.in-Ok.found
    c.keep_version_found.result c.keep_version_found.new.held.value record {
      least = c.in-Ok.ensures.least;
      none = c.in-Ok.ensures.none;
      build = c.in-Ok.ensures.build;
    } c.keep_version_found.ensures)

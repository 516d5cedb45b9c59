use Rattle.node_semver_c.specs.Answers.{IsLeastContainedInBoth}
use Rattle.node_semver_c.proofs.Found.{found_of}
use Rattle.node_semver_c.proofs.prereleases.node_semver_range_least_common_with_prereleases.Goals as goal

pub returns-in-Ok : goal.returns-in-Ok
returns-in-Ok c =
    rw (← c.get.ensures, ← c.with_prereleases.ensures, ← c.get-2.ensures) (found_of (IsLeastContainedInBoth c.with_prereleases.result c.get-2.result.now) c.in-Ok.found
    c.keep_version_found.result c.keep_version_found.new.held.value record {
      least = c.in-Ok.ensures.least;
      none = c.in-Ok.ensures.none;
      build = c.in-Ok.ensures.build;
    } c.keep_version_found.ensures)

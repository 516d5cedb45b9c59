use Rattle.node_semver_c.specs.Answers.{IsReadBack}
use Rattle.node_semver_c.proofs.Found.{found_of}
use Rattle.node_semver_c.proofs.keys.node_semver_version_of_key.Goals as goal

pub returns-in-Ok : goal.returns-in-Ok
returns-in-Ok c = found_of (IsReadBack c.args.key.now) c.in-Ok.found c.keep_version_found.result
    c.keep_version_found.new.held.value record {
      version = c.in-Ok.ensures.version;
      none = c.in-Ok.ensures.none;
    } c.keep_version_found.ensures

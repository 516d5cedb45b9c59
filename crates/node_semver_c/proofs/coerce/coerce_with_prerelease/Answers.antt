use Rattle.node_semver_c.specs.Answers.{IsFullCoercion}
use Rattle.node_semver_c.proofs.Found.{found_of}
use Rattle.node_semver_c.proofs.coerce.coerce_with_prerelease.Goals as goal

pub returns-in-Ok : goal.returns-in-Ok
returns-in-Ok c =
    found_of (IsFullCoercion c.args.rtl c.args.text.now) c.in-Ok.found c.keep_version_found.result
    c.keep_version_found.new.held.value record {
      found = c.in-Ok.ensures.found;
      none = c.in-Ok.ensures.none;
    } c.keep_version_found.ensures

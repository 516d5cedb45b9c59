use Rattle.node_semver_c.proofs.Bumps.{raised-of}
use Rattle.node_semver_c.proofs.bump.keep_bumped.Goals as goal
use Rattle.npm_semver.specs.Bump.{IsBumped, identifier_seen}

pub returns-in-Ok : goal.returns-in-Ok
returns-in-Ok c =
    raised-of (IsBumped c.args.bump (identifier_seen c.args.identifier) c.args.base c.args.version.now) c.in-Ok.bumped
    c.keep_version.result c.keep_version.new.held.value c.in-Ok.ensures.bumped c.keep_version.ensures

use Rattle.npm_semver.specs.declared.bump.BumpError.TheVariants.{OutOfMemory}
use Rattle.semver_command.specs.Ranges.{text_value}
use Rattle.semver_command.proofs.Increments.{no_version, raised_version}
use Rattle.semver_command.proofs.increment.incremented.Goals as goal

pub returns-in-Ok-clause-version : goal.returns-in-Ok-clause-version
returns-in-Ok-clause-version c = raised_version c.args.bump (text_value c.args.identifier) c.args.base c.args.version.now
    c.in-Ok.bumped c.as_ref.result c.in_ok-given.given c.as_ref.ensures.value c.in_ok-given.ensures.given
    c.in-Ok.ensures.bumped

pub returns-clause-version : goal.returns-clause-version
returns-clause-version c = no_version c.args.bump (text_value c.args.identifier) c.args.base c.args.version.now
    c.as_ref.result c.in_ok-given.given c.in-Err.error OutOfMemory c.as_ref.ensures.value c.in_ok-given.ensures.given
    c.in-Err.ensures.refused c.in_ok-stop_without_memory-in-Err.ensures.refused

use Rattle.semver_command.proofs.ReadTexts.{own_written}
use Rattle.semver_command.proofs.written.version_of.Goals as goal

pub returns : goal.returns
returns c = own_written c.args.options c.args.text.now c.own_version.result c.if-options.false c.own_version.ensures

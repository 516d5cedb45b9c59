-- It is, where it is read as one.
use Rattle.std.proofs.Common.{◌∙◌}
use Rattle.npm_advisories.proofs.ReadVersions.{read-tells}
use Rattle.npm_advisories.proofs.version.is_read.Goals as goal

pub returns : goal.returns
returns c = c.is_some.ensures ∙ read-tells c.args.text.now c.read_version.result c.read_version.ensures.read

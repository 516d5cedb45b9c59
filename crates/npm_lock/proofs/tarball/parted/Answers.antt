-- `rsplit_once` is the word of std.
use Rattle.npm_lock.proofs.LastParts.{last_parts}
use Rattle.npm_lock.proofs.tarball.parted.Goals as goal

pub returns : goal.returns
returns c = last_parts c.args.character c.args.text.now c.rsplit_once.result c.rsplit_once.ensures.cases c.requires

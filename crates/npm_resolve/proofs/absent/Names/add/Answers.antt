-- The name is there, or it is the last one now.
use Rattle.npm_resolve.proofs.Naming.{name_added}
use Rattle.npm_resolve.proofs.absent.Names.add.Goals as goal

pub returns : goal.returns
returns c = name_added _ _ _ (record { name = c.args.name; candidates = c.new.result }) c.in_ok-push.ensures.items c.new.ensures.items

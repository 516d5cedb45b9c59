-- The name is in the list, or among those that it does not have.
use Rattle.npm_resolve.proofs.Naming.{named_left, named_right}
use Rattle.npm_resolve.proofs.absent.Names.is_known.Goals as goal

pub returns-then-has_name : goal.returns-then-has_name
returns-then-has_name c = λ yes. named_left c.args.name.now c.args.listed.now c.args.self.now.absent.items (c.has_name.ensures yes)

pub returns-else-has_name : goal.returns-else-has_name
returns-else-has_name c = λ yes. named_right c.args.name.now c.args.listed.now c.args.self.now.absent.items
    (rw c.deref.ensures.value at c.has_name-else-has_name.ensures yes)

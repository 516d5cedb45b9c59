-- The alias is that of the folder.
use Rattle.npm_advisories.proofs.lock.name_in.Goals as goal

pub returns : goal.returns
returns c = rw c.name.ensures at c.name_of.ensures

-- Nothing is wrong with any dependency.
use Rattle.npm_resolve_laws.proofs.Edges.{nothing_wrong}
use Rattle.npm_resolve_laws.proofs.lock_files.flat_lock_files_have_no_problems.Goals as goal

pub returns : goal.returns
returns c = nothing_wrong c.specs_are_those_of_the_grammar.ensures.one

-- Each dependency of a selection is met.
use Rattle.npm_resolve_laws.proofs.Whole.{no_problems}
use Rattle.npm_resolve_laws.proofs.lock_files.lock_files_of_selections_have_no_problems.Goals as goal

pub returns : goal.returns
returns c = no_problems c.prints_are_read_back_by_npm.ensures c.specs_are_those_of_the_grammar.ensures.one c.specs_are_those_of_the_grammar.ensures.asked

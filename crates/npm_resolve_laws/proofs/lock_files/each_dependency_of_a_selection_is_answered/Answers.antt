-- By the numbers of the problem that is posed.
use Rattle.npm_resolve_laws.proofs.Selections.{answer_is_sound}
use Rattle.npm_resolve_laws.proofs.lock_files.each_dependency_of_a_selection_is_answered.Goals as goal

pub returns : goal.returns
returns c = answer_is_sound

-- Those so far are those of the choices so far.
use Rattle.std.proofs.Common.{◌≡◌, map, take}
use Rattle.npm_resolve.specs.Answers.{chosen_of, chosen_value}
use Rattle.npm_resolve.proofs.chosen.all_chosen.Given as goal

abbrev pub invariant-loop-choice : goal.invariant-loop-choice
invariant-loop-choice l = map chosen_value l.chosen.items ≡ map (chosen_of l.offers) (take l.choice-index l.choices)

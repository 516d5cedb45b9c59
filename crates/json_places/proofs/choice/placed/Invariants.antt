use Rattle.json_places.specs.Places.{AreChoices}
use Rattle.json_places.proofs.choice.placed.Given as goal

abbrev pub invariant-loop-subject : goal.invariant-loop-subject
invariant-loop-subject l = AreChoices l.text l.paths l.subject l.places.items

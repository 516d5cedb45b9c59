use Rattle.npm_sets.proofs.Places.OnePlace.{one-place, place-refused}
use Rattle.npm_sets.proofs.refused.a_refused_text_has_one_place.Goals as goal

pub returns-clause-one : goal.returns-clause-one
returns-clause-one c = one-place

pub returns-clause-refused : goal.returns-clause-refused
returns-clause-refused c = place-refused

-- The places so far are those of the first paths.
use Rattle.json_places.specs.Private.FirstPlaces.{ArePlacesOfFirst}
use Rattle.json_places.proofs.settled.settled.Given as goal

abbrev pub invariant-loop-index : goal.invariant-loop-index
invariant-loop-index l = ArePlacesOfFirst l.text l.paths l.index l.found.items

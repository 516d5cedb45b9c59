use Rattle.std.proofs.Common.{length}
use Rattle.json_places.specs.Private.Searches.{IsSearch}
use Rattle.json_places.proofs.search.places_of.Given as goal

abbrev pub invariant-loop-token : goal.invariant-loop-token
invariant-loop-token l = IsSearch l.text l.search

abbrev pub decreases-loop-token : goal.decreases-loop-token
decreases-loop-token l = length l.reader

-- Nothing is seen yet, and the place is the beginning.
use Rattle.json_places.proofs.Found.{nothing}
use Rattle.json_places.proofs.PlaceSteps.{at_start}
use Rattle.json_places.proofs.search.Search.new.Goals as goal

pub returns : goal.returns
returns c = record {
  places = nothing c.args._text.now c.args.paths.now _ c.in_ok-nothing_seen.ensures;
  at = at_start c.args._text.now;
}

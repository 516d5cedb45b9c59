-- One place more is seen.
use Rattle.json_places.specs.Places.{IsPlace}
use Rattle.json_places.specs.Private.Searches.{AreSeen}
use Rattle.json_places.proofs.Found.{seen_more}
use Rattle.json_places.proofs.search.Search.see.Goals as goal

pub returns-then-offset-text : goal.returns-then-offset-text
returns-then-offset-text c =
    let at : IsPlace c.args.text.now c.moved-self.result = rw c.as_bytes.ensures.value at c.moved-self.ensures.place in
    let more : AreSeen c.args.text.now c.put.new.seen.items = rw c.put.ensures
    (seen_more c.args.text.now c.args.self.now.seen.items c.args.index c.moved-self.result at c.requires.places) in
    record { places = more; at = at }

-- The document comes last.
use Rattle.npm_resolve.proofs.documents.add_found.Goals as goal
use Rattle.npm_resolve.proofs.documents.add_found.Goals.{in-Err, in-Ok}

pub returns : goal.returns
returns c = elim c.match-push.branch [
  | in-Ok w ↦ rw w.result-is (
    c.in_ok-add_peers.ensures.0,
    c.in_ok-add_peers.ensures.1,
    c.in_ok-add_peers.ensures.2,
    rw w.in-Ok.is at c.push.ensures.items,
  )
  | in-Err w ↦ rw w.result-is tt
]

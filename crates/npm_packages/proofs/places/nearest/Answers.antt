-- The last folder up to the path is at or above it, or beside it.
use Rattle.std.proofs.Common.{◌≡◌, None, rules}
use Rattle.npm_packages.proofs.Beside.{nearest_last}
use Rattle.npm_packages.proofs.LastPlaces.{start_up_to}
use Rattle.npm_packages.proofs.Starts.{begins_front}
use Rattle.npm_packages.proofs.places.nearest.Goals as goal

pub returns-in_err-last : goal.returns-in_err-last
returns-in_err-last c =
    let result : c.from_residual.result ≡ None = search rules in
    let none = rw (c.in_err-last.was, c.as_bytes.ensures.value) at c.last_to.ensures in
    rw result (record {
      hit = tt;
      nearest = λ folder some is. absurd (none folder some
          (start_up_to folder c.args.path.now (begins_front c.args.path.now folder is)));
    })

pub returns-then-is_front : goal.returns-then-is_front
returns-then-is_front c = nearest_last c.args.places.now c.args.name.now c.args.path.now c.in_ok-last.last
    c.requires.by_folder (rw c.as_bytes.ensures.value at c.in_ok-last.ensures) (c.is_front.ensures.0 c.if-is_front.true)

-- The map has one hit more.
use Rattle.npm_packages.proofs.Indexing.{same_keys}
use Rattle.npm_packages.proofs.LastPlaces.{key_of}
use Rattle.npm_packages.proofs.index.add.Goals as goal

pub returns : goal.returns
returns c = λ other folder.
    rw (same_keys c.args.name.now other c.args.hit.folder.now folder) at
    (rw c.as_bytes.ensures.value at (c.in_ok-insert.ensures.updates.0 (key_of other folder)))

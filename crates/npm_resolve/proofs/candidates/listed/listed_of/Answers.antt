-- A document without versions has no candidates.
use Rattle.std.proofs.Common.{◌≡◌, None, sym}
use Rattle.serde_json.specs.View.{view}
use Rattle.npm_resolve.specs.Candidates.{none}
use Rattle.npm_pick.specs.Packument.{versions_of}
use Rattle.npm_resolve.proofs.candidates.listed.listed_of.Goals as goal

pub returns-in-None : goal.returns-in-None
returns-in-None c =
    let empty : versions_of (view c.args.packument.now) ≡ None = sym (rw c.in-None.is at c.versions_of.ensures) in
    rw (empty, c.new.ensures.items) none

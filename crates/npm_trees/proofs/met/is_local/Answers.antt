-- The index has it in the folder of the package.
use Rattle.std.proofs.Common.{◌≡◌, Some, true}
use Rattle.npm_trees.specs.Places.{is_peer}
use Rattle.npm_trees.specs.Private.Folders.{at_name}
use Rattle.npm_trees.proofs.met.is_local.Goals as goal

pub returns-in-Some : goal.returns-in-Some
returns-in-Some c =
    let there : at_name c.args.folders.now c.args.ask.now.from c.args.ask.now.name.now ≡ Some c.in-Some.field-0 =
    cc (c.in_folder.ensures, c.in-Some.is) in (
      (λ peer. record {
        peer = cc (c.is_peer.ensures, peer);
        number = c.in-Some.field-0;
        there = (c.requires c.args.ask.now.from c.args.ask.now.name.now c.in-Some.field-0).0 there;
      }),
      (λ local. let peer : is_peer c.args.places.now c.args.ask.now ≡ true = local.peer in cc (c.is_peer.ensures, peer)),
    )

pub returns-in-None : goal.returns-in-None
returns-in-None c = (
  (λ never. cc never),
  (λ local.
      let there = (c.requires c.args.ask.now.from c.args.ask.now.name.now local.number).1 local.there in
      absurd (cc (there, c.in_folder.ensures, c.in-None.is))),
)

-- It is in the folder, or it is seen from the folder above, or nothing is.
use Rattle.std.proofs.Common.{None, Some}
use Rattle.npm_trees.proofs.Walking.{only_above, only_here, only_nothing}
use Rattle.npm_trees.proofs.folders.seen_from.Goals as goal

pub returns-in-Some : goal.returns-in-Some
returns-in-Some c = c.up.invariant (Some c.in-Some.number) (only_here c.args.places.now c.args.name.now c.args.folders.now c.requires.index
    c.up.folder c.in-Some.number (cc (c.in_folder.ensures, c.in-Some.is)))

pub up-preserved : goal.up-preserved
up-preserved c = λ found is. c.up.invariant found (only_above c.args.places.now c.args.name.now c.args.folders.now c.requires.index
    c.up.folder c.in-Some-up_of.up found (cc (c.in_folder.ensures, c.in_default.is)) (cc (c.up_of.ensures, c.in-Some-up_of.is)) is)

pub returns-in-None : goal.returns-in-None
returns-in-None c = c.up.invariant None (only_nothing c.args.places.now c.args.name.now c.args.folders.now c.requires.index c.up.folder
    (cc (c.in_folder.ensures, c.in_default.is)) (cc (c.up_of.ensures, c.in-None.is)))

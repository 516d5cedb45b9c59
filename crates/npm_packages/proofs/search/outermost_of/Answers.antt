-- The folder above is reached, and is shorter.
use Rattle.std.proofs.Common.{rules}
use Rattle.npm_packages.specs.Lookups.{itself}
use Rattle.npm_packages.proofs.Reaching.{reached_on, shorter}
use Rattle.npm_packages.proofs.search.outermost_of.Goals as goal

pub folders-init : goal.folders-init
folders-init c = record { text = search rules; reached = itself c.args.folder.now }

pub folders-preserved : goal.folders-preserved
folders-preserved c = record {
  text = search rules;
  reached = reached_on c.folders.invariant.reached c.in-Some.above.now (rw c.in-Some.is at c.above_of.ensures);
}

pub folders-smaller : goal.folders-smaller
folders-smaller c = shorter _ _ (rw c.in-Some.is at c.above_of.ensures)

pub returns : goal.returns
returns c = record { reached = c.folders.invariant.reached; last = rw c.in_default.is at c.above_of.ensures }

use Rattle.std.proofs.Common.{◌≡◌, arith, length}
use Rattle.version_solving.specs.Documents.{problem_of}
use Rattle.version_solving.specs.Private.Missed.{AreMissed}
use Rattle.version_solving.proofs.Missed.{all_missed, missed_all, none_can}
use Rattle.version_solving.proofs.blame.least_of.Goals as goal

pub loop-at-init : goal.loop-at-init
loop-at-init c =
    let p = problem_of c.args.root.now c.args.documents.now in
    rw c.new-kept.ensures.items (all_missed p (none_can p c.args.root.now c.requires) (length c.args.root.now) (omega arith))

pub returns : goal.returns
returns c =
    let none_left : c.loop-at.at ≡ 0 = omega arith in
    let missed : AreMissed (problem_of c.args.root.now c.args.documents.now) 0 c.loop-at.kept.items = rw none_left at c.loop-at.invariant in
    record {
      culprits = rw c.reverse.ensures.items (missed_all (problem_of c.args.root.now c.args.documents.now) c.loop-at.kept.items missed);
    }

-- A start is one of the texts, or it is passed.
use Rattle.std.proofs.Common.{sym}
use Rattle.npm_lock.proofs.StarPatterns.{one_passed, part_after, whole_rest}
use Rattle.npm_lock.proofs.patterns.has_start.Goals as goal
use Rattle.npm_lock.proofs.patterns.has_start.Goals.{else-is_part-via-then-is_part+else-is_start, else-is_part-via-else-is_part}

pub loop-at-preserved : goal.loop-at-preserved
loop-at-preserved c = record {
  part = sym (part_after c.args.folder.now c.loop-at.at c.loop-at-test.true);
  none = one_passed c.args.texts.now c.args.is_tree c.args.folder.now c.loop-at.at c.loop-at-test.true
      c.loop-at.invariant.none (λ there whole matched. elim c.else-is_part.branch [
        | else-is_part-via-then-is_part+else-is_start w ↦
            cc (w.is_start.ensures.only there (rw (whole_rest c.args.folder.now c.loop-at.at) matched), w.if-is_start.false)
        | else-is_part-via-else-is_part w ↦ cc (whole, c.loop-at.invariant.part, w.if-is_part.false)
      ]);
}

-- One piece more.
use Rattle.npm_lock_findings.specs.Forms.{piece_value}
use Rattle.npm_lock_findings.proofs.Safe.{piece_more}
use Rattle.npm_lock_findings.proofs.forms.piece.push_pieces.Goals as goal

pub loop-piece-preserved : goal.loop-piece-preserved
loop-piece-preserved c = piece_more piece_value c.args.form c.args.pieces.now c.loop-piece.piece-index _ c.args.out.now.items _ _
    c.loop-piece-test.true c.loop-piece.invariant c.in_ok-push_piece.ensures

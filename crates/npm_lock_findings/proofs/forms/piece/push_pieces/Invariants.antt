-- The pieces so far are written.
use Rattle.std.proofs.Common.{◌≡◌, ◌++◌, ℕ, List, map, take}
use Rattle.npm_lock_findings.specs.Forms.{IsWritten, piece_value}
use Rattle.npm_lock_findings.proofs.forms.piece.push_pieces.Given as goal

abbrev pub invariant-loop-piece : goal.invariant-loop-piece
invariant-loop-piece l = (text : List ℕ) × IsWritten l.form (map piece_value (take l.piece-index l.pieces)) text
    × (l.out.items ≡ l.initial.out.items ++ text)

use Rattle.npm_sets.specs.NpmMeaning.{piece_comparators}
use Rattle.npm_sets.proofs.Pieces.PieceReading.{none-added, set-added}
use Rattle.npm_sets.proofs.read.add_piece.Goals as goal

pub returns-in_ok-add-in-Some : goal.returns-in_ok-add-in-Some
returns-in_ok-add-in-Some c =
    set-added (piece_comparators c.args.options c.args.piece.now) c.merge_piece.new.common c.in_ok-found.found
    c.in-Some.set c.args.sets.now c.add.new.self c.in_ok-found.ensures c.in-Some.ensures c.in_ok-add-in-Some.ensures

pub returns-in-None : goal.returns-in-None
returns-in-None c =
    none-added (piece_comparators c.args.options c.args.piece.now) c.merge_piece.new.common c.in_ok-found.found
    c.args.sets.now c.in_ok-found.ensures c.in-None.ensures

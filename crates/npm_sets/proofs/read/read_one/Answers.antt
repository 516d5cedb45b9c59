use Rattle.std.proofs.Common.{◌∷◌, []}
use Rattle.npm_sets.specs.NpmMeaning.{piece_comparators}
use Rattle.npm_sets.proofs.Pieces.OnePiece.{one-crossed, one-given, one-passed, one-refused}
use Rattle.npm_sets.proofs.Pieces.PieceReading.{piece-refused}
use Rattle.npm_sets.proofs.Pieces.SetMeaning.{npm-sets-admit}
use Rattle.npm_sets.proofs.read.read_one.Goals as goal

pub returns-in-Err-clause-refused : goal.returns-in-Err-clause-refused
returns-in-Err-clause-refused c = λ is.
    one-refused c.args.options c.args.text.now c.requires
    (piece-refused (piece_comparators c.args.options c.args.text.now) c.merge_piece.new.common c.in-Err.unread
    c.in-Err.ensures is)

pub returns-then-not-found-clause-refused : goal.returns-then-not-found-clause-refused
returns-then-not-found-clause-refused c = λ is.
    one-passed c.args.options c.args.text.now c.requires c.merge_piece.new.common c.in-Ok.found c.in-Ok.ensures
    c.if-not-found.true

pub returns-in-Some : goal.returns-in-Some
returns-in-Some c =
    let is = one-given c.args.options c.args.text.now c.requires c.merge_piece.new.common c.in-Ok.found c.in-Some.set
    c.in-Ok.ensures c.if-not-found.false c.in-Some.ensures in
    record {
      sets = is.sets_are;
      means = npm-sets-admit c.args.options c.args.text.now (c.in-Some.set ∷ []) is.sets_are;
      holds = is.holds;
      refused = tt;
      accepted = is.accepted;
    }

pub returns-in-None : goal.returns-in-None
returns-in-None c =
    let is = one-crossed c.args.options c.args.text.now c.requires c.merge_piece.new.common c.in-Ok.found
    c.no_versions.result c.in-Ok.ensures c.if-not-found.false c.in-None.ensures c.no_versions.ensures in
    record {
      sets = is.sets_are;
      means = npm-sets-admit c.args.options c.args.text.now (c.no_versions.result ∷ []) is.sets_are;
      holds = is.holds;
      refused = tt;
      accepted = is.accepted;
    }

use Rattle.std.proofs.Common.{◌∙◌, sym}
use Rattle.npm_sets.proofs.Pieces.SignPieces.{sign-no_hyphen}
use Rattle.npm_sets.proofs.piece.read_hyphen.Goals as goal

pub returns-then-begins_with_sign-clause-read : goal.returns-then-begins_with_sign-clause-read
returns-then-begins_with_sign-clause-read c =
    sign-no_hyphen c.args.options c.args.text.now (sym c.begins_with_sign.ensures ∙ c.if-begins_with_sign.true)

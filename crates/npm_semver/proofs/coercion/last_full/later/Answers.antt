use Rattle.std.proofs.Common.{arith, subst}
use Rattle.npm_semver.specs.Private.ExtraViews.{IsFoundBefore}
use Rattle.npm_semver.proofs.Versions.FullPieces.{short_full, short_same}
use Rattle.npm_semver.proofs.Versions.LastFull.{keep_some, take}
use Rattle.npm_semver.proofs.coercion.last_full.later.Goals as goal

pub returns-in-None : goal.returns-in-None
returns-in-None c = grind (arith, take)

pub returns-then-before-piece : goal.returns-then-before-piece
returns-then-before-piece c = λ text from first h number full short inner.
    keep_some text from c.args.piece.start first c.in-Some.before (subst (IsFoundBefore text from) c.in-Some.is h)
    number
    (λ end g.
    let same = short_same text c.args.piece.start c.args.piece.end end (short_full text c.args.piece full short) g in
    (omega (arith, same, c.if-before-piece.true), omega (arith, same, inner)))

pub returns-else-before-piece : goal.returns-else-before-piece
returns-else-before-piece c = grind (arith, take)

use Rattle.std.proofs.Common.{List, Option, ap, refl, subst, ℕ}
use Rattle.npm_sets.specs.Private.ReadViews.{some_seen}
use Rattle.npm_sets.proofs.Places.RefusedTexts.{ArePassed, PiecesPassed, all-read, first-told, pieces-none}
use Rattle.npm_sets.proofs.Places.RefusedTexts.{pieces-passed}
use Rattle.npm_sets.proofs.Places.RefusedTexts.{place-found}
use Rattle.npm_sets.proofs.refused.refused_place.Goals as goal

pub loop-left-init : goal.loop-left-init
loop-left-init c = pieces-none c.args.options c.args.text.now

pub loop-left-preserved : goal.loop-left-preserved
loop-left-preserved c =
    let rest = c.in-Some.rest.now in
    let piece = c.first_piece.result.0.now in
    let so : PiecesPassed c.args.options c.args.text.now rest =
    subst (λ (l : Option (List ℕ)). ArePassed c.args.options c.args.text.now l) (ap some_seen c.in-Some.is)
    c.loop-left.invariant in
    pieces-passed c.args.options c.args.text.now rest piece c.first_piece.result.1 so c.in-None.ensures
    c.first_piece.ensures.first c.first_piece.ensures.last

pub returns-in-Some-refused_end : goal.returns-in-Some-refused_end
returns-in-Some-refused_end c =
    let rest = c.in-Some.rest.now in
    let piece = c.first_piece.result.0.now in
    let so : PiecesPassed c.args.options c.args.text.now rest =
    subst (λ (l : Option (List ℕ)). ArePassed c.args.options c.args.text.now l) (ap some_seen c.in-Some.is)
    c.loop-left.invariant in
    let found = c.in-Some-refused_end.ensures in
    place-found c.args.options c.args.text.now rest piece c.in-Some-refused_end.end.now _ so
    (first-told rest piece c.first_piece.result.1 c.first_piece.ensures.first c.first_piece.ensures.last)
    found.0 found.1 refl

pub returns : goal.returns
returns c =
    absurd (all-read c.args.options c.args.text.now
    (subst (λ (l : Option (List ℕ)). ArePassed c.args.options c.args.text.now l) (ap some_seen c.in_default.is)
    c.loop-left.invariant)
    c.requires.refused)

use Rattle.std.proofs.Common.{◌<◌, ◌∷◌, [], ℕ, List, Option, Some, ap, refl, subst, sym}
use Rattle.semver_cuts.specs.Ends.{Ends}
use Rattle.semver_texts.specs.Version.{VersionValue}
use Rattle.semver_sets.specs.RangeSets.{sets_seen}
use Rattle.npm_sets.specs.NpmMeaning.{piece_comparators}
use Rattle.npm_sets.specs.Private.ReadViews.{some_seen}
use Rattle.npm_sets.proofs.Pieces.PieceReading.{refused-told}
use Rattle.npm_sets.proofs.Pieces.TextReading.{PiecesSoFar, first-of, left-shorter, left_length, none-gathered}
use Rattle.npm_sets.proofs.Pieces.TextReading.{none-refused}
use Rattle.npm_sets.proofs.Pieces.SetMeaning.{npm-sets-admit}
use Rattle.npm_sets.proofs.Pieces.TextReading.{pieces-found, pieces-passed, pieces-refused, pieces-start}
use Rattle.npm_sets.proofs.Pieces.TextReading.{some-gathered}
use Rattle.npm_sets.proofs.read.read_several.Goals as goal
use Rattle.npm_sets.proofs.read.read_several.Goals.{else-here, then-here}

pub loop-left-init : goal.loop-left-init
loop-left-init c =
    pieces-start c.args.options c.args.text.now (Some c.args.text.now) c.new-sets.result refl c.new-sets.ensures

pub loop-left-smaller : goal.loop-left-smaller
loop-left-smaller c =
    subst (λ (l : Option (List ℕ)). left_length (some_seen c.first_piece.result.1) < left_length l)
    (sym (ap some_seen c.in-Some.is))
    (left-shorter c.in-Some.rest.now c.first_piece.result.0.now c.first_piece.result.1 c.first_piece.ensures.first)

pub loop-left-preserved : goal.loop-left-preserved
loop-left-preserved c =
    let options = c.args.options in
    let text = c.args.text.now in
    let rest = c.in-Some.rest.now in
    let piece = c.first_piece.result.0.now in
    let later = c.first_piece.result.1 in
    let so : PiecesSoFar options text (Some rest) c.loop-left.sets c.loop-left.found =
    subst (λ (l : Option (List ℕ)). PiecesSoFar options text l c.loop-left.sets c.loop-left.found)
    (ap some_seen c.in-Some.is) c.loop-left.invariant in
    let first = first-of options rest piece later c.first_piece.ensures.first c.first_piece.ensures.last in
    elim c.if-here.branch [
      | then-here w ↦
          subst (PiecesSoFar options text (some_seen later) c.add_piece.new.sets) (sym w.found-is)
          (pieces-found options text rest piece (some_seen later) c.loop-left.sets c.add_piece.new.sets
          c.loop-left.found
          c.in-Ok.here so first c.in-Ok.ensures w.if-here.true)
      | else-here w ↦
          subst (PiecesSoFar options text (some_seen later) c.add_piece.new.sets) (sym w.found-is)
          (pieces-passed options text rest piece (some_seen later) c.loop-left.sets c.add_piece.new.sets
          c.loop-left.found c.in-Ok.here so first c.in-Ok.ensures w.if-here.false)
    ]

pub returns-in-Err-clause-refused : goal.returns-in-Err-clause-refused
returns-in-Err-clause-refused c = λ is.
    let options = c.args.options in
    let text = c.args.text.now in
    let rest = c.in-Some.rest.now in
    let piece = c.first_piece.result.0.now in
    let later = c.first_piece.result.1 in
    let so : PiecesSoFar options text (Some rest) c.loop-left.sets c.loop-left.found =
    subst (λ (l : Option (List ℕ)). PiecesSoFar options text l c.loop-left.sets c.loop-left.found)
    (ap some_seen c.in-Some.is) c.loop-left.invariant in
    let first = first-of options rest piece later c.first_piece.ensures.first c.first_piece.ensures.last in
    pieces-refused options text rest piece (some_seen later) c.loop-left.sets c.loop-left.found so first
    (refused-told (piece_comparators options piece) c.loop-left.sets c.add_piece.new.sets c.in-Err.unread
    c.in-Err.ensures is)

pub returns-then-not-found-clause-refused : goal.returns-then-not-found-clause-refused
returns-then-not-found-clause-refused c = λ is.
    none-refused c.args.options c.args.text.now (some_seen c.loop-left.left) c.loop-left.sets c.loop-left.found
    c.loop-left.invariant (ap some_seen c.in_default.is) c.if-not-found.true

pub returns-in-Ok-Some : goal.returns-in-Ok-Some
returns-in-Ok-Some c =
    let is = some-gathered c.args.options c.args.text.now (some_seen c.loop-left.left) c.loop-left.sets
    c.loop-left.found c.in-Ok-Some.field-0 c.in-Ok-Some.sets c.loop-left.invariant (ap some_seen c.in_default.is)
    c.if-not-found.false c.in-Ok-Some.ensures.sets c.in-Ok-Some.ensures.some c.in-Ok-Some.field-0-is in
    record {
      sets = is.sets_are;
      means = npm-sets-admit c.args.options c.args.text.now (sets_seen c.in-Ok-Some.sets) is.sets_are;
      holds = is.holds;
      refused = tt;
      accepted = is.accepted;
    }

pub returns-in-Ok-None : goal.returns-in-Ok-None
returns-in-Ok-None c =
    let is = none-gathered c.args.options c.args.text.now (some_seen c.loop-left.left) c.loop-left.sets
    (c.no_versions.result ∷ []) c.loop-left.found c.in-Ok-None.field-0 c.loop-left.invariant
    (ap some_seen c.in_default.is) c.if-not-found.false c.in-Ok-None.ensures.sets c.in-Ok-None.field-0-is
    (ap (λ (s : Ends VersionValue). s ∷ []) c.no_versions.ensures) in
    record {
      sets = is.sets_are;
      means = npm-sets-admit c.args.options c.args.text.now (c.no_versions.result ∷ []) is.sets_are;
      holds = is.holds;
      refused = tt;
      accepted = is.accepted;
    }

use native.Mathlib.Omega.{arith}
use Rattle.std.proofs.Common.{◌∙◌, Option, ap, sym}
use Rattle.semver_sets.specs.Comparator.{Comparator}
use Rattle.semver_sets.specs.Merging.{all_cuts}
use Rattle.npm_sets.specs.NpmMeaning.{alone_or, piece_comparators}
use Rattle.semver_sets.specs.WordEnds.{ends_seen}
use Rattle.npm_sets.proofs.Chunks.ChunkLemmas.{left-solid, no-bytes_told, not-true, solid-told}
use Rattle.npm_sets.proofs.Pieces.EndBounds.{small-read}
use Rattle.npm_sets.proofs.Pieces.PieceReading.{all-bounded, one-read, piece-empty, piece-words}
use Rattle.npm_sets.proofs.Pieces.UnknownStarts.{unknown-piece}
use Rattle.npm_sets.proofs.Pieces.WordReading.{text_comparators}
use Rattle.npm_sets.proofs.piece.merge_piece.Goals as goal

pub returns-then-is_empty : goal.returns-then-is_empty
returns-then-is_empty c =
    let options = c.args.options in
    let piece = c.args.piece.now in
    let text = c.skip_space-text.result.now in
    one-read (piece_comparators options piece) c.args.common.now c.narrow_to.new.self all_cuts c.requires
    c.narrow_to.ensures all-bounded
    (piece-empty options piece text c.skip_space-text.ensures
    (no-bytes_told text c.is_empty.result c.is_empty.ensures c.if-is_empty.true))

pub returns-then-not-begins_comparator : goal.returns-then-not-begins_comparator
returns-then-not-begins_comparator c =
    let text = c.skip_space-text.result.now in
    unknown-piece c.args.options c.args.piece.now text (not-true c.args.options.loose c.if-not-options.true)
    c.skip_space-text.ensures
    (solid-told text c.is_empty.result c.is_empty.ensures c.if-is_empty.false
    (left-solid c.args.piece.now text c.skip_space-text.ensures))
    (sym c.begins_comparator.ensures ∙ c.if-not-begins_comparator.true)

pub read_hyphen-requires : goal.read_hyphen-requires
read_hyphen-requires c = grind (arith, solid-told, left-solid)

pub merge_words-requires-clause-solid : goal.merge_words-requires-clause-solid
merge_words-requires-clause-solid c = grind (arith, solid-told, left-solid)

pub returns-in_ok-narrow-in-Some : goal.returns-in_ok-narrow-in-Some
returns-in_ok-narrow-in-Some c =
    let options = c.args.options in
    let piece = c.args.piece.now in
    let text = c.skip_space-text.result.now in
    let solid = solid-told text c.is_empty.result c.is_empty.ensures c.if-is_empty.false
    (left-solid piece text c.skip_space-text.ensures) in
    one-read (piece_comparators options piece) c.args.common.now c.narrow.new.self (ends_seen c.in-Some.ends)
    c.requires c.in_ok-narrow-in-Some.ensures.merged (small-read c.in-Some.ends c.in-Some.ensures.small)
    (piece-words options piece text c.skip_space-text.ensures solid
    ∙ ap (λ (h : Option Comparator). alone_or h (text_comparators options text)) (sym c.in-Some.ensures.read))

pub returns-in-None : goal.returns-in-None
returns-in-None c = grind (arith, solid-told, left-solid, piece-words)

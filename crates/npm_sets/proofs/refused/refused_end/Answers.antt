use Rattle.std.proofs.Common.{◌∙◌, sym}
use Rattle.npm_sets.specs.Private.ReadViews.{some_seen}
use Rattle.semver_sets.specs.WordEnds.{ends_seen}
use Rattle.npm_sets.proofs.Chunks.ChunkLemmas.{left-solid, no-bytes_told, solid-told}
use Rattle.npm_sets.proofs.Pieces.UnknownStarts.{unknown-end}
use Rattle.npm_sets.proofs.Places.RefusedPieces.{end-hyphen, end-nothing, end-words}
use Rattle.npm_sets.proofs.refused.refused_end.Goals as goal

pub returns-then-is_empty : goal.returns-then-is_empty
returns-then-is_empty c =
    let text = c.skip_space-text.result.now in
    end-nothing c.args.options c.args.piece.now text c.skip_space-text.ensures
    (no-bytes_told text c.is_empty.result c.is_empty.ensures c.if-is_empty.true)

pub returns-then-not-begins_comparator : goal.returns-then-not-begins_comparator
returns-then-not-begins_comparator c =
    let text = c.skip_space-text.result.now in
    unknown-end c.args.options c.args.piece.now text c.requires c.skip_space-text.ensures
    (solid-told text c.is_empty.result c.is_empty.ensures c.if-is_empty.false
    (left-solid c.args.piece.now text c.skip_space-text.ensures))
    (sym c.begins_comparator.ensures ∙ c.if-not-begins_comparator.true)

pub read_hyphen-requires : goal.read_hyphen-requires
read_hyphen-requires c =
    let text = c.skip_space-text.result.now in
    solid-told text c.is_empty.result c.is_empty.ensures c.if-is_empty.false
    (left-solid c.args.piece.now text c.skip_space-text.ensures)

pub returns-in-Some : goal.returns-in-Some
returns-in-Some c =
    let text = c.skip_space-text.result.now in
    end-hyphen c.args.options c.args.piece.now text c.skip_space-text.ensures
    (solid-told text c.is_empty.result c.is_empty.ensures c.if-is_empty.false
    (left-solid c.args.piece.now text c.skip_space-text.ensures))
    (ends_seen c.in-Some.field-0) c.in-Some.ensures.read

pub returns-in-None : goal.returns-in-None
returns-in-None c =
    let text = c.skip_space-text.result.now in
    end-words c.args.options c.args.piece.now text c.skip_space-text.ensures c.requires
    (solid-told text c.is_empty.result c.is_empty.ensures c.if-is_empty.false
    (left-solid c.args.piece.now text c.skip_space-text.ensures))
    c.in-None.ensures.read (some_seen c.refused_word.result) c.refused_word.ensures

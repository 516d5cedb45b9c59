use native.Mathlib.Omega.{arith}
use Rattle.std.proofs.Common.{◌∙◌, inl, inr, refl, sym}
use Rattle.semver_texts.specs.Reading.{prefix_of, rest_of}
use Rattle.npm_sets.specs.WordTexts.{is_solid, is_space}
use Rattle.npm_sets.proofs.Chunks.ChunkLemmas.{left-solid, no-bytes_told, solid-told, some-bytes_told}
use Rattle.npm_sets.proofs.Chunks.SideLemmas.{both-sides, not-dashed, not-sides, one-chunk, three-chunks}
use Rattle.npm_sets.proofs.Pieces.SignPieces.{no-dash}
use Rattle.npm_sets.proofs.piece.split_sides.Goals as goal

pub returns-then-not-is_dash : goal.returns-then-not-is_dash
returns-then-not-is_dash c = grind (arith, not-dashed, one-chunk, left-solid)

pub returns-then-is_empty : goal.returns-then-is_empty
returns-then-is_empty c =
    let text = c.args.text.now in
    let left = c.split_chunk.result.0.now in
    let first = c.split_chunk.result.1.now in
    let dash = c.split_chunk-2.result.0.now in
    let second = c.split_chunk-2.result.1.now in
    let right = c.split_chunk-3.result.0.now in
    let third = c.split_chunk-3.result.1.now in
    not-sides text left dash right third
    (three-chunks text left first dash second right third
    (one-chunk text left first c.requires c.split_chunk.ensures.chunk c.split_chunk.ensures.rest)
    (left-solid (rest_of is_solid text) first c.split_chunk.ensures.rest) c.split_chunk-2.ensures.chunk
    c.split_chunk-2.ensures.rest c.split_chunk-3.ensures.chunk c.split_chunk-3.ensures.rest)
    (inl (no-bytes_told right c.is_empty.result c.is_empty.ensures c.if-is_empty.true))

pub returns-then-not-is_empty : goal.returns-then-not-is_empty
returns-then-not-is_empty c =
    let text = c.args.text.now in
    let left = c.split_chunk.result.0.now in
    let first = c.split_chunk.result.1.now in
    let dash = c.split_chunk-2.result.0.now in
    let second = c.split_chunk-2.result.1.now in
    let right = c.split_chunk-3.result.0.now in
    let third = c.split_chunk-3.result.1.now in
    not-sides text left dash right third
    (three-chunks text left first dash second right third
    (one-chunk text left first c.requires c.split_chunk.ensures.chunk c.split_chunk.ensures.rest)
    (left-solid (rest_of is_solid text) first c.split_chunk.ensures.rest) c.split_chunk-2.ensures.chunk
    c.split_chunk-2.ensures.rest c.split_chunk-3.ensures.chunk c.split_chunk-3.ensures.rest)
    (inr (solid-told third c.is_empty-2.result c.is_empty-2.ensures c.if-not-is_empty.true
    (left-solid (rest_of is_solid second) third c.split_chunk-3.ensures.rest)))

pub returns : goal.returns
returns c =
    let text = c.args.text.now in
    let left = c.split_chunk.result.0.now in
    let first = c.split_chunk.result.1.now in
    let dash = c.split_chunk-2.result.0.now in
    let second = c.split_chunk-2.result.1.now in
    let right = c.split_chunk-3.result.0.now in
    let third = c.split_chunk-3.result.1.now in
    both-sides text left dash right third
    (three-chunks text left first dash second right third
    (one-chunk text left first c.requires c.split_chunk.ensures.chunk c.split_chunk.ensures.rest)
    (left-solid (rest_of is_solid text) first c.split_chunk.ensures.rest) c.split_chunk-2.ensures.chunk
    c.split_chunk-2.ensures.rest c.split_chunk-3.ensures.chunk c.split_chunk-3.ensures.rest)
    (sym c.is_dash.ensures ∙ c.if-not-is_dash.false)
    (some-bytes_told right c.is_empty.result c.is_empty.ensures c.if-is_empty.false)
    (no-bytes_told third c.is_empty-2.result c.is_empty-2.ensures c.if-not-is_empty.false)

pub returns-then-not-begins_with_dash : goal.returns-then-not-begins_with_dash
returns-then-not-begins_with_dash c =
    let text = c.args.text.now in
    let first = c.split_chunk.result.1.now in
    not-dashed text c.split_chunk.result.0.now first (prefix_of is_solid first)
    (rest_of is_space (rest_of is_solid first))
    (one-chunk text c.split_chunk.result.0.now first c.requires c.split_chunk.ensures.chunk c.split_chunk.ensures.rest)
    (left-solid (rest_of is_solid text) first c.split_chunk.ensures.rest) refl refl
    (no-dash first (sym c.begins_with_dash.ensures ∙ c.if-not-begins_with_dash.true))

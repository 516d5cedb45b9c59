use Rattle.std.proofs.Common.{◌∙◌, sym}
use Rattle.npm_sets.proofs.Chunks.ChunkLemmas.{no-bytes_told, some-bytes_told}
use Rattle.npm_sets.proofs.Chunks.Joins.{next-apart, next-joined, next-none}
use Rattle.npm_sets.proofs.words.next_chunk.Goals as goal

pub returns-then-is_empty-clause-none : goal.returns-then-is_empty-clause-none
returns-then-is_empty-clause-none c =
    let chunk = c.split_chunk.result.0.now in
    next-none c.args.ending c.args.text.now chunk c.split_chunk.result.1.now c.requires c.split_chunk.ensures.chunk
    c.split_chunk.ensures.rest (no-bytes_told chunk c.is_empty.result c.is_empty.ensures c.if-is_empty.true)

pub returns-then-is_joined-clause-some : goal.returns-then-is_joined-clause-some
returns-then-is_joined-clause-some c =
    let chunk = c.split_chunk.result.0.now in
    next-joined c.args.ending c.args.text.now chunk c.split_chunk.result.1.now c.requires c.split_chunk.ensures.chunk
    c.split_chunk.ensures.rest (some-bytes_told chunk c.is_empty.result c.is_empty.ensures c.if-is_empty.false)
    (sym c.is_joined.ensures ∙ c.if-is_joined.true)

pub returns-else-is_joined-clause-none : goal.returns-else-is_joined-clause-none
returns-else-is_joined-clause-none c =
    let chunk = c.split_chunk.result.0.now in
    next-apart c.args.ending c.args.text.now chunk c.split_chunk.result.1.now c.requires c.split_chunk.ensures.chunk
    c.split_chunk.ensures.rest (sym c.is_joined.ensures ∙ c.if-is_joined.false)

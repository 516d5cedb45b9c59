use Rattle.npm_sets.specs.WordTexts.{chunks_of, words_of}
use Rattle.npm_sets.proofs.Chunks.ChunkLemmas.{no-bytes_told, solid-told}
use Rattle.npm_sets.proofs.Places.RefusedWords.{err-told, ok-told, passed-all, passed-more, passed-none, passed-refused}
use Rattle.npm_sets.proofs.refused.refused_word.Goals as goal

pub loop-rest-init : goal.loop-rest-init
loop-rest-init c =
    passed-none c.args.options c.args.piece.now c.skip_space-rest.result.now c.skip_space-rest.ensures

pub loop-rest-preserved : goal.loop-rest-preserved
loop-rest-preserved c =
    let lead = c.read_word.result.0 in
    let operand = c.read_word.result.1.now in
    passed-more c.args.options c.args.piece.now c.loop-rest.rest.now c.read_word.result.2.now (lead, operand)
    c.loop-rest.invariant c.read_word.ensures.part
    (ok-told c.args.options (lead, operand) c.is_comparator.result (c.is_comparator.ensures lead)
    c.if-not-is_comparator.false) c.read_word.ensures.rest

pub returns-then-not-is_comparator : goal.returns-then-not-is_comparator
returns-then-not-is_comparator c =
    let lead = c.read_word.result.0 in
    let operand = c.read_word.result.1.now in
    let rest = c.loop-rest.rest.now in
    passed-refused c.args.options c.args.piece.now rest (lead, operand) (words_of (chunks_of c.read_word.result.2.now))
    c.loop-rest.invariant
    (solid-told rest c.is_empty.result c.is_empty.ensures c.loop-rest-test.true c.loop-rest.invariant.solid)
    c.read_word.ensures.word
    (err-told c.args.options (lead, operand) c.is_comparator.result (c.is_comparator.ensures lead)
    c.if-not-is_comparator.true)

pub returns : goal.returns
returns c =
    passed-all c.args.options c.args.piece.now c.loop-rest.rest.now c.loop-rest.invariant
    (no-bytes_told c.loop-rest.rest.now c.is_empty.result c.is_empty.ensures c.loop-rest-test.false)

use Rattle.npm_sets.proofs.Chunks.ChunkLemmas.{no-bytes_told}
use Rattle.npm_sets.proofs.Pieces.WordReading.{words-done, words-failed, words-kept, words-told}
use Rattle.npm_sets.proofs.piece.merge_words.Goals as goal

pub loop-rest-preserved-then-merged : goal.loop-rest-preserved-then-merged
loop-rest-preserved-then-merged c =
    words-told c.args.options c.args.text.now c.loop-rest.rest.now c.read_word-lead.result.2.now c.loop-rest.common
    c.merge_word.new.common c.loop-rest.found (c.read_word-lead.result.0, c.read_word-lead.result.1.now) c.in-Ok.merged
    c.loop-rest.invariant c.read_word-lead.ensures.word c.read_word-lead.ensures.rest c.in-Ok.ensures c.if-merged.true

pub loop-rest-preserved : goal.loop-rest-preserved
loop-rest-preserved c =
    words-kept c.args.options c.args.text.now c.loop-rest.rest.now c.read_word-lead.result.2.now c.loop-rest.common
    c.merge_word.new.common c.loop-rest.found (c.read_word-lead.result.0, c.read_word-lead.result.1.now) c.in-Ok.merged
    c.loop-rest.invariant c.read_word-lead.ensures.word c.read_word-lead.ensures.rest c.in-Ok.ensures c.if-merged.false

pub returns-in-Err : goal.returns-in-Err
returns-in-Err c =
    words-failed c.args.options c.args.text.now c.loop-rest.rest.now c.read_word-lead.result.2.now c.loop-rest.common
    c.merge_word.new.common c.loop-rest.found (c.read_word-lead.result.0, c.read_word-lead.result.1.now)
    c.in-Err.unread c.loop-rest.invariant c.read_word-lead.ensures.word c.in-Err.ensures

pub returns : goal.returns
returns c =
    words-done c.args.options c.args.text.now c.loop-rest.rest.now c.loop-rest.common c.loop-rest.found
    c.loop-rest.invariant
    (no-bytes_told c.loop-rest.rest.now c.is_empty.result c.is_empty.ensures c.loop-rest-test.false)

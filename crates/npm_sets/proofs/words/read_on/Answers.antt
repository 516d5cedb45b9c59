use Rattle.npm_sets.proofs.Chunks.WordParts.{next-shorter, passed-chunk, passed-end, passed-none}
use Rattle.npm_sets.proofs.words.read_on.Goals as goal

pub loop-chunk-init : goal.loop-chunk-init
loop-chunk-init c = passed-none (c.args.lead, c.args.operand.now) c.args.ending c.args.text.now c.requires

pub loop-chunk-smaller : goal.loop-chunk-smaller
loop-chunk-smaller c =
    next-shorter c.loop-chunk.ending c.loop-chunk.rest.now c.in-Some.chunk.now c.in-Some.others.now
    c.in-Some.ensures.some

pub loop-chunk-preserved : goal.loop-chunk-preserved
loop-chunk-preserved c =
    passed-chunk (c.args.lead, c.args.operand.now) c.args.ending c.args.text.now
    (c.loop-chunk.lead, c.loop-chunk.operand.now) c.loop-chunk.ending c.loop-chunk.rest.now c.in-Some.chunk.now
    c.in-Some.others.now (c.word_and-longer.result.0, c.word_and-longer.result.1.now) c.ending_of-ending.result
    c.loop-chunk.invariant c.in-Some.ensures.some c.word_and-longer.ensures c.ending_of-ending.ensures

pub returns : goal.returns
returns c =
    passed-end (c.args.lead, c.args.operand.now) c.args.ending c.args.text.now
    (c.loop-chunk.lead, c.loop-chunk.operand.now) c.loop-chunk.ending c.loop-chunk.rest.now
    (c.ended-lead.result.0, c.ended-lead.result.1.now) c.loop-chunk.invariant c.in_default.ensures.none
    c.ended-lead.ensures

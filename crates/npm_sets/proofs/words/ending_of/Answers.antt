use Rattle.std.proofs.Common.{◌∙◌, sym}
use Rattle.npm_sets.proofs.Chunks.Joins.{ending-last, ending-none, ending-one}
use Rattle.npm_sets.proofs.words.ending_of.Goals as goal

pub returns-in-empty : goal.returns-in-empty
returns-in-empty c = sym (ending-none c.args.chunk.now c.in-empty.len_below)

pub returns-in-len1 : goal.returns-in-len1
returns-in-len1 c =
    c.ending_with.ensures ∙ sym (ending-one c.args.chunk.now c.in-len1.len_at_least c.in-len1.len_below)

pub returns-in-len2-up : goal.returns-in-len2-up
returns-in-len2-up c =
    c.ending_with-in-len2-up.ensures ∙ sym (ending-last 0 0 c.args.chunk.now c.in-len2-up.len_at_least)

use Rattle.std.proofs.Common.{◌∙◌, sym}
use Rattle.semver_texts.specs.Reading.{rest_of}
use Rattle.npm_sets.specs.WordTexts.{Word, is_solid}
use Rattle.npm_sets.proofs.Chunks.ChunkLemmas.{after-shorter, left-solid}
use Rattle.npm_sets.proofs.Chunks.WordParts.{longer-shorter, part-closed, part-longer, word-closed, word-longer}
use Rattle.npm_sets.proofs.words.read_word.Goals as goal

pub read_on-requires : goal.read_on-requires
read_on-requires c =
    left-solid (rest_of is_solid c.args.text.now) c.split_chunk.result.1.now c.split_chunk.ensures.rest

pub returns-in-NoOperator-clause-word : goal.returns-in-NoOperator-clause-word
returns-in-NoOperator-clause-word c =
    word-closed c.args.text.now c.split_chunk.result.0.now c.split_chunk.result.1.now
    (c.split_lead-lead.result.0, c.split_lead-lead.result.1.now) c.requires c.split_chunk.ensures.chunk
    c.split_chunk.ensures.rest c.split_lead-lead.ensures (sym c.ending_of.ensures ∙ c.in-NoOperator.is)

pub returns-in-NoOperator-clause-part : goal.returns-in-NoOperator-clause-part
returns-in-NoOperator-clause-part c =
    part-closed c.args.text.now c.split_chunk.result.0.now c.split_chunk.result.1.now
    (c.split_lead-lead.result.0, c.split_lead-lead.result.1.now) c.requires c.split_chunk.ensures.chunk
    c.split_chunk.ensures.rest c.split_lead-lead.ensures (sym c.ending_of.ensures ∙ c.in-NoOperator.is)

pub returns-in-NoOperator-clause-rest : goal.returns-in-NoOperator-clause-rest
returns-in-NoOperator-clause-rest c =
    left-solid (rest_of is_solid c.args.text.now) c.split_chunk.result.1.now c.split_chunk.ensures.rest

pub returns-in-NoOperator-clause-shorter : goal.returns-in-NoOperator-clause-shorter
returns-in-NoOperator-clause-shorter c =
    after-shorter c.args.text.now c.split_chunk.result.1.now c.requires c.split_chunk.ensures.rest

pub returns-in_default : goal.returns-in_default
returns-in_default c =
    let word : Word = (c.split_lead-lead.result.0, c.split_lead-lead.result.1.now) in
    let whole : Word = (c.read_on.result.0, c.read_on.result.1.now) in
    record {
      word =
          word-longer c.args.text.now c.split_chunk.result.0.now c.split_chunk.result.1.now c.read_on.result.2.now word
          whole c.ending_of.result c.requires c.split_chunk.ensures.chunk c.split_chunk.ensures.rest
          c.split_lead-lead.ensures c.ending_of.ensures c.read_on.ensures;
      part =
          part-longer c.args.text.now c.split_chunk.result.0.now c.split_chunk.result.1.now c.read_on.result.2.now word
          whole c.ending_of.result c.requires c.split_chunk.ensures.chunk c.split_chunk.ensures.rest
          c.split_lead-lead.ensures c.ending_of.ensures c.read_on.ensures;
      rest = c.read_on.ensures.solid;
      shorter =
          longer-shorter c.args.text.now c.split_chunk.result.1.now c.read_on.result.2.now word whole
          c.ending_of.result c.requires c.split_chunk.ensures.rest c.read_on.ensures;
    }

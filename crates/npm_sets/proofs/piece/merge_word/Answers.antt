use Rattle.semver_sets.specs.WordEnds.{ends_seen, partial_seen}
use Rattle.npm_sets.proofs.Pieces.EndBounds.{small-read}
use Rattle.npm_sets.proofs.Pieces.WordReading.{word-read}
use Rattle.npm_sets.proofs.piece.merge_word.Goals as goal

pub returns-in_ok-narrow-in-Ok : goal.returns-in_ok-narrow-in-Ok
returns-in_ok-narrow-in-Ok c = (
  ends_seen c.lead_ends.result,
  word-read c.args.options c.args.lead c.args.operand.now (partial_seen c.in-Ok.partial) (ends_seen c.lead_ends.result)
      c.in-Ok.ensures.read c.lead_ends.ensures.ends,
  c.in_ok-narrow-in-Ok.ensures.merged,
  small-read c.lead_ends.result c.lead_ends.ensures.small,
)

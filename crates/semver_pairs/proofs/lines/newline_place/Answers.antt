use Rattle.semver_pairs.proofs.LineLemmas.{first_newline}
use Rattle.semver_pairs.proofs.lines.newline_place.Goals as goal

pub returns : goal.returns
returns c = first_newline c.args.bytes.now _ _ _ c.memchr_iter.ensures.value c.next.ensures.steps

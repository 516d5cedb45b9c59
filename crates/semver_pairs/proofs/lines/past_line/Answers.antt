use Rattle.std.proofs.Common.{Some}
use Rattle.std.proofs.lemmas.Bool.Decides.{Decides-eqb}
use Rattle.std.proofs.lemmas.Slice.Eq.{strip_prefix_is}
use Rattle.semver_pairs.proofs.LineLemmas.{past_newline}
use Rattle.semver_pairs.proofs.lines.past_line.Goals as goal

pub returns : goal.returns
returns c =
    past_newline c.args.bytes.now c.args.line.now c.in_ok-strip_prefix.field-0.now c.strip_prefix-2.result
    (strip_prefix_is Decides-eqb c.args.bytes.now c.args.line.now (Some c.in_ok-strip_prefix.field-0)
    c.in_ok-strip_prefix.ensures.cases)
    c.strip_prefix-2.ensures.cases

use Rattle.semver_pairs.proofs.LineLemmas.{line_ascii, line_fewer, line_rest, no_newline-from, none-of}
use Rattle.semver_pairs.proofs.lines.split_line.Goals as goal

pub returns-clause-split : goal.returns-clause-split
returns-clause-split c = line_rest c.args.bytes.now c.in_ok-at.at c.in_ok-at.ensures.0 c.in_ok-at.ensures.1

pub returns-clause-fewer : goal.returns-clause-fewer
returns-clause-fewer c =
    line_fewer (line_rest c.args.bytes.now c.in_ok-at.at c.in_ok-at.ensures.0 c.in_ok-at.ensures.1)

pub returns-clause-ascii : goal.returns-clause-ascii
returns-clause-ascii c =
    line_ascii (line_rest c.args.bytes.now c.in_ok-at.at c.in_ok-at.ensures.0 c.in_ok-at.ensures.1)

pub returns-in_err-at-clause-none : goal.returns-in_err-at-clause-none
returns-in_err-at-clause-none c = none-of _ (no_newline-from c.args.bytes.now c.in_err-at.ensures)

use Rattle.std.proofs.Common.{◌≤◌, length, arith, refl}
use Rattle.std.proofs.lemmas.List.{take_all}
use Rattle.version_solving.proofs.reasoning.check.are_lines_kept.Goals as goal

pub returns : goal.returns
returns c =
    let whole : length c.args.lines.now ≤ c.loop-line.line-index = omega arith in
    (λ yes. rw take_all at c.loop-line.invariant, λ all. refl)

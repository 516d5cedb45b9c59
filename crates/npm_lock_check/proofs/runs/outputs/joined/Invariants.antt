-- The lines so far, and those that are left, are all.
use Rattle.std.proofs.Common.{◌≡◌, ◌++◌}
use Rattle.std.specs.List.{flat_map}
use Rattle.npm_lock_check.proofs.runs.outputs.joined.Given as goal

abbrev pub invariant-loop-output : goal.invariant-loop-output
invariant-loop-output l = l.all.lines.items ++ flat_map (λ output. output.lines.items) l.output-iterator.rest.items
    ≡ flat_map (λ output. output.lines.items) l.fn.outputs.items

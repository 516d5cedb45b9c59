use Rattle.std.proofs.Common.{arith}
use Rattle.std.proofs.lemmas.Grind.{common_steps}
use Rattle.node_semver.specs.Lemmas.RangePrint.{led_sets-range}
use Rattle.node_semver.proofs.range.print.RangeDisplay.fmt.Goals as goal

pub returns-in_ok-write_set-in-len1-up-clause-writes :
    goal.returns-in_ok-write_set-in-len1-up-clause-writes
returns-in_ok-write_set-in-len1-up-clause-writes g c =
    rw (
      ← c.self.view_is,
      ← c.as_slice.ensures,
      ← led_sets-range c.as_slice.result.now,
    ) (grind (arith, common_steps))

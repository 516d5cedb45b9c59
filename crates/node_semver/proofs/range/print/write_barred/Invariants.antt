use Rattle.std.proofs.Common.{take, flat_map}
use Rattle.std.specs.Fmt.{HasWritten, IsPlainFormatter}
use Rattle.node_semver.specs.Lemmas.RangePrint.{barred_text}
use Rattle.node_semver.proofs.range.print.write_barred.Given as goal

abbrev pub invariant-sets : goal.invariant-sets
invariant-sets g l = IsPlainFormatter l.initial.f
    → HasWritten g.W.Write.write_str_gives l.initial.f (flat_map barred_text (take l.set-index l.sets)) l.f

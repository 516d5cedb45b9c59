use Rattle.std.proofs.Common.{◌∙◌, false, sym}
use Rattle.version_solving.specs.Private.Paths.{in_table}
use Rattle.version_solving.proofs.Entries.{open_further, open_here}
use Rattle.version_solving.proofs.agenda.first_open.Goals as goal

pub returns-then-is_open-clause-name : goal.returns-then-is_open-clause-name
returns-then-is_open-clause-name c =
    open_here (in_table c.args.table.now) c.args.demands.now c.loop-place.place
    (record { name = 0; range = 0; needed = false }) c.loop-place-test.true
    c.loop-place.invariant (sym c.is_open.ensures ∙ c.if-is_open.true)

pub loop-place-preserved : goal.loop-place-preserved
loop-place-preserved c =
    open_further (in_table c.args.table.now) c.args.demands.now c.loop-place.place
    (record { name = 0; range = 0; needed = false }) c.loop-place-test.true
    c.loop-place.invariant (sym c.is_open.ensures ∙ c.if-is_open.false)

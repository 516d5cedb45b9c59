-- One advisory more is in npm's form.
use Rattle.std.proofs.Common.{◌∙◌, sym}
use Rattle.npm_advisories.specs.Faults.{form_fault}
use Rattle.npm_advisories.proofs.Reading.{fault-none}
use Rattle.npm_advisories.proofs.read.pass_list.Goals as goal

pub loop-place-preserved : goal.loop-place-preserved
loop-place-preserved c = c.loop-place.invariant ∙ fault-none c.args.name.now c.args.entries.now c.loop-place.place
    c.index-entries-place.result c.loop-place-test.true c.index-entries-place.is form_fault (sym c.in-Ok.ensures.fault)

-- The versions that are left decide.
use Rattle.std.proofs.Common.{◌≡◌, drop}
use Rattle.serde_json.specs.View.{items_view}
use Rattle.npm_advisories.specs.OsvFaults as Faults
use Rattle.npm_advisories.specs.Private.VersionTest.{is_version}
use Rattle.npm_advisories.proofs.osv.affected.any_read.Given as goal

abbrev pub invariant-loop-value : goal.invariant-loop-value
invariant-loop-value l = Faults.any_read is_version (items_view l.versions)
    ≡ Faults.any_read is_version (items_view (drop l.value-index l.versions))

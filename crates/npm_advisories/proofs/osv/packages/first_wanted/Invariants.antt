-- The elements that are left decide.
use Rattle.std.proofs.Common.{◌≡◌, drop}
use Rattle.serde_json.specs.View.{items_view}
use Rattle.npm_advisories.specs.OsvPackages as Packages
use Rattle.npm_advisories.specs.Index.{has_name}
use Rattle.npm_advisories.proofs.osv.packages.first_wanted.Given as goal

abbrev pub invariant-loop-one : goal.invariant-loop-one
invariant-loop-one l = Packages.first_wanted (has_name l.names) (items_view l.affected)
    ≡ Packages.first_wanted (has_name l.names) (items_view (drop l.one-index l.affected))

-- The packages of the members that are left come after those so far.
use Rattle.std.proofs.Common.{◌++◌, List, map}
use Rattle.serde_json.specs.View.{members_view}
use Rattle.npm_packages.specs.Aliases.{name_at}
use Rattle.npm_packages.specs.Dependents.{texts_at}
use Rattle.npm_advisories.specs.Audit.{InstalledValue, installed_value}
use Rattle.npm_advisories.specs.LockFile.{AreInstalled}
use Rattle.npm_advisories.proofs.lock.installed_of.Given as goal

abbrev pub invariant-loop-folder : goal.invariant-loop-folder
invariant-loop-folder l = (later : List InstalledValue)
    → AreInstalled (texts_at l.dependents) (name_at l.aliases) (members_view l.folder-iterator) later
    → AreInstalled (texts_at l.dependents) (name_at l.aliases) (members_view l.initial.folder-iterator)
    (map installed_value l.all.items ++ later)

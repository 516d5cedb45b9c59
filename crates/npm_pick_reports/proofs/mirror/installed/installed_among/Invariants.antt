-- The versions so far, and then those of the members that are left, are all versions.
use Rattle.std.proofs.Common.{◌++◌, List, map}
use Rattle.serde_json.specs.View.{members_view}
use Rattle.npm_texts.specs.RegistrySpec.{RegistrySpecValue, registry_spec_value}
use Rattle.npm_packages.specs.Lemmas.FolderMaps.{HasFolder}
use Rattle.npm_pick_reports.specs.Installed.{AreAskedBy}
use Rattle.npm_pick_reports.proofs.mirror.installed.installed_among.Given as goal

abbrev pub invariant-loop-folder : goal.invariant-loop-folder
invariant-loop-folder l = (later : List RegistrySpecValue)
    → AreAskedBy (HasFolder l.elsewhere) (members_view l.folder-iterator) later
    → AreAskedBy (HasFolder l.elsewhere) (members_view l.initial.folder-iterator)
    (map registry_spec_value l.installed.items ++ later)

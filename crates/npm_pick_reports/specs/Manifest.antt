-- Which values are no manifest that is read: npm's "package.json".
use Rattle.std.specs.Prelude.{Option, Some, if◌then◌else◌, is_some}
use Rattle.serde_json.specs.Data.{Data}
use Rattle.serde_json.specs.Find.{as_object}
use Rattle.npm_packages.specs.Faults.{package_fault}
use Rattle.npm_packages.specs.declared.fault.Fault.{Fault}
use Rattle.npm_packages.specs.declared.fault.Fault.TheVariants as Faults

-- the fault of a value as a manifest, if it has one: it is no object, or its `version` or a dependency is no string
abbrev pub manifest_fault : (manifest : Data) → Option Fault
manifest_fault manifest = if is_some (as_object manifest) then package_fault manifest else Some Faults.Manifest

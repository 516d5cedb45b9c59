-- The lock file that the arguments name.
use Rattle.std.specs.Prelude.{◌≡◌, None, Option, Some, codes}
use Rattle.serde_json.specs.Data.{Data}
use Rattle.serde_json.specs.Find.{get}
use Rattle.npm_packages.specs.Faults.{lock_fault}
use Rattle.npm_packages.specs.PackageValue.{packages_data}
use Rattle.npm_packages.specs.declared.place.Lock.{Lock}

-- the packages of a lock file of version 2 or 3 without faults
abbrev pub IsLockOf : (file : Data) → Lock → Type 0
IsLockOf file lock = (lock_fault file ≡ None) × (get (codes "packages") file ≡ Some (packages_data lock))

-- the packages of the lock file if there is one, and else none
abbrev pub IsLockIn : (file : Option Data) → Option Lock → Type 0
IsLockIn None lock = lock ≡ None
IsLockIn (Some file) lock = (found : Lock) × (lock ≡ Some found) × IsLockOf file found

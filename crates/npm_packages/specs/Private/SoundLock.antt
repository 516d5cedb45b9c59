-- What a lock file without a fault is kept with.
use Rattle.std.specs.Prelude.{◌≡◌, ℕ, List, None, Some, codes}
use Rattle.std.specs.BTreeMap.{BTreeMap}
use Rattle.serde_json.specs.Find.{get}
use Rattle.serde_json.specs.View.{view}
use Rattle.serde_json.specs.declared.value.Value.{Value}
use denote.Ref.{Bor}
use Rattle.npm_packages.specs.Faults.{lock_fault}
use Rattle.npm_packages.specs.Index.{IsIndexOf}
use Rattle.npm_packages.specs.PackageValue.{packages_data}
use Rattle.npm_packages.specs.Rules.{AreRules}
use Rattle.npm_packages.specs.declared.index.Index.{Index}
use Rattle.npm_packages.specs.declared.overrides.Rule.{Rule}
use Rattle.npm_packages.specs.declared.place.Lock.{Lock}

-- the file has no fault; these are its packages, with their index and the rules in `overrides` of the root
pub record IsPrepared (file : Value) (packages : Lock) (index : Index) (rules : BTreeMap (Bor (List ℕ)) Rule)
    : Type 0 where
  pub sound : lock_fault (view file) ≡ None
  pub packages_at : get (codes "packages") (view file) ≡ Some (packages_data packages)
  pub indexed : IsIndexOf (packages_data packages) index
  pub ruled : AreRules (packages_data packages) rules

-- Versions that the text of a range admits, and peers inside the package that asks for them.
use Rattle.std.specs.Prelude.{◌≡◌, ℕ, List, Option, Some, true}
use Rattle.node_semver.specs.Versions.{VersionValue}
use Rattle.npm_texts.specs.Admission.{Admits, of_dependencies}
use Rattle.npm_texts.specs.InstalledVersions.{IsInstalledVersion}
use Rattle.npm_trees.specs.Places.{IsIn, is_peer}
use Rattle.npm_trees.specs.declared.tree.Ask.{Ask}
use Rattle.npm_trees.specs.declared.tree.Place.{Place}

-- the text admits what npm reads the version as
pub record IsAdmitted (text : List ℕ) (version : Option (List ℕ)) : Type 0 where
  pub written : List ℕ
  pub v : VersionValue
  pub is : version ≡ Some written
  pub read : IsInstalledVersion written v
  pub admits : Admits of_dependencies text v

-- a peer, and something has its name in the folder of the package that asks
pub record IsLocal (places : List Place) (ask : Ask) : Type 0 where
  pub peer : is_peer places ask ≡ true
  pub number : ℕ
  pub there : IsIn places ask.from ask.name.now number

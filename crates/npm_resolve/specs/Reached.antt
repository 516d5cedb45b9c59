-- Which names the dependencies of a root lead to, if those of some groups do not count.
use Rattle.std.specs.Prelude.{◌≡◌, ◌&&◌, ℕ, List, Bool, Some, false, not, true}
use Rattle.serde_json.specs.Data.{Data}
use Rattle.npm_packages.specs.Asked.{AskedValue, asked_of}
use Rattle.npm_resolve.specs.Installed.{InstalledValue, found}
use Rattle.npm_resolve.specs.declared.flat_locks.reached.Groups.{Groups}

-- a dependency that is in none of these groups: of `optional` are those that need not be found
abbrev pub leads : Groups → AskedValue → Bool
leads groups asked = not (groups.dev && asked.is_dev) && not (groups.optional && not asked.is_needed)
    && not (groups.peer && asked.is_peer)

-- a manifest has such a dependency on a name
pub record Asks (asker : Data) (is_installed : Bool) (groups : Groups) (name : List ℕ) : Type 0 where
  pub asked : AskedValue
  pub there : asked_of asker is_installed name ≡ Some asked
  pub leading : leads groups asked ≡ true

-- the root has such a dependency on the name, or a package has that is reached
pub data IsReached (root : Data) (installed : List InstalledValue) (groups : Groups) : (name : List ℕ) → Type 0 where
  from_root : (name : List ℕ) → Asks root false groups name → IsReached root installed groups name
  from_package : (asker name : List ℕ) (one : InstalledValue) → IsReached root installed groups asker
      → found installed asker ≡ Some one → Asks one.manifest true groups name → IsReached root installed groups name

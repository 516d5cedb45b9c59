-- Why a package is not installed everywhere: npm's "package-lock.json", "dev, optional, devOptional". A package is marked if each way to it
-- from the root has such a dependency.
use Rattle.std.specs.Prelude.{◌≡◌, ◌↔◌, ℕ, List, false, true}
use Rattle.serde_json.specs.Data.{Data}
use Rattle.npm_resolve.specs.Installed.{InstalledValue}
use Rattle.npm_resolve.specs.Reached.{IsReached}
use Rattle.npm_resolve.specs.declared.flat_locks.marks.Marks.{Marks}
use Rattle.npm_resolve.specs.declared.flat_locks.reached.Groups.{Groups}

abbrev pub of_dev : Groups
of_dev = record { dev = true; optional = false; peer = false }

abbrev pub of_optional : Groups
of_optional = record { dev = false; optional = true; peer = false }

abbrev pub of_both : Groups
of_both = record { dev = true; optional = true; peer = false }

abbrev pub of_peers : Groups
of_peers = record { dev = false; optional = false; peer = true }

-- `devOptional`: each way has a dependency for development or an optional one, and there are ways with one of them alone
pub record AreMarks (root : Data) (installed : List InstalledValue) (name : List ℕ) (marks : Marks) : Type 0 where
  pub dev : (marks.dev ≡ true) ↔ ¬ IsReached root installed of_dev name
  pub optional : (marks.optional ≡ true) ↔ ¬ IsReached root installed of_optional name
  pub dev_optional : (marks.dev_optional ≡ true)
      ↔ ((marks.dev ≡ false) × (marks.optional ≡ false) × ¬ IsReached root installed of_both name)
  pub peer : (marks.peer ≡ true) ↔ ¬ IsReached root installed of_peers name

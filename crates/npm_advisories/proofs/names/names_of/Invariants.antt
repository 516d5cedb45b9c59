-- The names so far, and those of the packages that are left, are all names.
use Rattle.std.proofs.Common.{◌≡◌, ◌||◌, ℕ, List, drop, map}
use Rattle.npm_advisories.specs.Audit.{installed_value, names_of}
use Rattle.npm_advisories.specs.Files.{is_among}
use Rattle.npm_advisories.specs.Index.{has_name}
use Rattle.npm_advisories.proofs.names.names_of.Given as goal

abbrev pub invariant-loop-one : goal.invariant-loop-one
invariant-loop-one l = (name : List ℕ)
    → (has_name l.names name || is_among (names_of (map installed_value (drop l.one-index l.installed))) name)
    ≡ is_among (names_of (map installed_value l.installed)) name

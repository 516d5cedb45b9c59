-- Worked rows of the definitions: systems.
use Rattle.std.proofs.Common.{◌≡◌, codes, false, refl, true}
use Rattle.serde_json.specs.Data.{array, item, no_items, string}
use Rattle.npm_resolve_reports.specs.Systems.{admits, entries_of}

pub a_named_system : admits (codes "linux") (entries_of (array (item (string (codes "darwin")) (item (string (codes "linux")) no_items)))) ≡ true
a_named_system = refl

pub another_system : admits (codes "win32") (entries_of (string (codes "linux"))) ≡ false
another_system = refl

pub a_system_that_is_not_forbidden : admits (codes "linux") (entries_of (string (codes "!win32"))) ≡ true
a_system_that_is_not_forbidden = refl

pub a_forbidden_system : admits (codes "win32") (entries_of (string (codes "!win32"))) ≡ false
a_forbidden_system = refl

pub any_system : admits (codes "win32") (entries_of (array (item (string (codes "any")) no_items))) ≡ true
any_system = refl

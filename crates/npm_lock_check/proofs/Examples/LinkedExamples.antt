-- What the definitions say of the manifests of linked folders.
use Rattle.std.proofs.Common.{◌≡◌, ◌∷◌, ℕ, List, [], None, Some, codes, refl}
use Rattle.serde_json.specs.Data.{Data, member, no_members, object, string}
use Rattle.npm_lock.specs.ManifestPlace.{as_package}
use Rattle.npm_packages.specs.declared.fault.Fault.TheVariants as Faults
use Rattle.npm_manifest_files.specs.Linked.{LinkedValue}
use Rattle.npm_lock_check.specs.Check.{linked_fault}
use Rattle.npm_lock_check.specs.Report.{manifests_of, placed}

abbrev one : (key : List ℕ) → Data → Data
one key value = object (member key value no_members)

abbrev asks : (spec : List ℕ) → Data
asks spec = one (codes "dependencies") (one (codes "a") (string spec))

abbrev lock_of : (root workspace : Data) → Data
lock_of root workspace = one (codes "packages") (object (member [] root (member (codes "w") workspace no_members)))

abbrev at_w : Data → LinkedValue
at_w manifest = record { folder = codes "w"; manifest = manifest }

-- ---- manifests in their places

pub each_is_in_its_own_place : placed (lock_of (asks (codes "^1")) (asks (codes "^1")))
    (manifests_of (Some (asks (codes "^2"))) (at_w (asks (codes "^3")) ∷ []))
    ≡ lock_of (as_package (asks (codes "^2"))) (as_package (asks (codes "^3")))
each_is_in_its_own_place = refl

-- without a manifest of the root no other counts
pub none_counts_alone : manifests_of None (at_w (asks (codes "^3")) ∷ []) ≡ []
none_counts_alone = refl

-- the entry of the lock file stays where no manifest is
pub what_is_not_there_stays : placed (lock_of (asks (codes "^1")) (asks (codes "^1")))
    (manifests_of (Some (asks (codes "^2"))) [])
    ≡ lock_of (as_package (asks (codes "^2"))) (asks (codes "^1"))
what_is_not_there_stays = refl

-- ---- manifests with a fault

pub the_first_fault : linked_fault (at_w (asks (codes "^1")) ∷ at_w (object no_members)
    ∷ record { folder = codes "v"; manifest = string [] } ∷ at_w (string []) ∷ [])
    ≡ Some (record { folder = codes "v"; fault = Faults.Manifest })
the_first_fault = refl

pub no_fault : linked_fault (at_w (asks (codes "^1")) ∷ []) ≡ None
no_fault = refl

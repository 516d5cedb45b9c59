-- What the definitions say of a manifest that is no object, and of one in the place of a package.
use Rattle.std.proofs.Common.{◌≡◌, Some, codes, false, refl, true}
use Rattle.serde_json.specs.Data.{array, boolean, member, no_items, no_members, object}
use Rattle.npm_packages.specs.declared.fault.Fault.TheVariants as Faults
use Rattle.npm_lock.specs.ManifestPlace.{package_at}
use Rattle.npm_lock.specs.Mismatches as Mismatches

pub an_object_comes_first_in_a_manifest : Mismatches.manifest_fault (array no_items) ≡ Some Faults.Manifest
an_object_comes_first_in_a_manifest = refl

-- ---- marks

pub the_marks_are_those_of_the_lock_file : package_at (codes "w")
    (object (member (codes "optional") (boolean true) no_members)) (object (member (codes "dev") (boolean true) no_members))
    ≡ object (member (codes "dev") (boolean false) (member (codes "link") (boolean false)
    (member (codes "optional") (boolean true) (member (codes "peer") (boolean false) no_members))))
the_marks_are_those_of_the_lock_file = refl

pub the_root_has_none : package_at (codes "") (object (member (codes "optional") (boolean true) no_members)) (object no_members)
    ≡ object (member (codes "dev") (boolean false) (member (codes "link") (boolean false)
    (member (codes "optional") (boolean false) (member (codes "peer") (boolean false) no_members))))
the_root_has_none = refl

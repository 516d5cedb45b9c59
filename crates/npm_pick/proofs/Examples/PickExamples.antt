-- Worked rows of the definitions: what is forbidden, and the ranges of versions.
use Rattle.std.proofs.Common.{◌≡◌, false, Ok, Err, codes, refl, true}
use Rattle.serde_json.specs.Data.{Data, member, no_members, null, object}
use Rattle.npm_pick.specs.Pick.{allowed, caret_of, inside, outside}
use Rattle.npm_pick.specs.Wanted.{up_to}
use Rattle.npm_pick.specs.declared.error.PickError.TheVariants.{Forbidden, NoneInRange}

-- `{"policyRestrictions": {"versions": {"1.0.0": null}}}`
abbrev guarded : Data
guarded = object (member (codes "policyRestrictions")
    (object (member (codes "versions") (object (member (codes "1.0.0") null no_members)) no_members)) no_members)

pub a_restricted_version_is_forbidden : allowed guarded (Ok (inside (codes "1.0.0") null false)) ≡ Err Forbidden
a_restricted_version_is_forbidden = refl

pub another_is_allowed : allowed guarded (Ok (inside (codes "2.0.0") null false)) ≡ Ok (inside (codes "2.0.0") null false)
another_is_allowed = refl

pub no_error_is_outside : outside true (Err NoneInRange) ≡ Err NoneInRange
no_error_is_outside = refl

pub the_range_of_what_is_compatible : caret_of (codes "1.2.3") ≡ codes "^1.2.3"
the_range_of_what_is_compatible = refl

pub the_range_up_to_a_version : up_to (codes "1.2.3") ≡ codes "<=1.2.3"
the_range_up_to_a_version = refl

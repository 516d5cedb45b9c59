-- What the definitions say of one dependency where nothing is installed, and of a version that lies in no set.
use Rattle.std.proofs.Common.{◌≡◌, ℕ, List, true, false, Some, None, codes, refl}
use Rattle.serde_json.specs.Data.{Data, boolean, member, no_members, object, string}
use Rattle.npm_packages.specs.Asked.{AskedValue}
use Rattle.npm_packages.specs.Edges.{edge_of}
use Rattle.npm_lock.specs.Outcomes.{DependencyValue, IsOutcome, IsVerdictOn, absent, by_spec, dependency_of, engine_of, fine, valid}
use Rattle.npm_packages.specs.Overrides.{changed_by, unread}
use Rattle.npm_packages.specs.Packages.{IsFound, Package, above, here}
use Rattle.npm_lock.specs.Verdict.{better}
use Rattle.npm_lock.specs.declared.problem.Reason.TheVariants.{Location, Tag}
use Rattle.npm_lock.specs.declared.verdict.Verdict.TheVariants.{Invalid, Unchecked}

abbrev nothing : Data
nothing = object no_members

abbrev asked : AskedValue
asked = record { spec = codes "^1"; is_needed = true; is_peer = false; is_dev = false; is_overridden = false }

no_package : (name folder : List ℕ) (found : Package) → IsFound nothing name folder (Some found) → ⊥
no_package name folder found (here _ _ is) = cc is.found
no_package name folder found (above _ parent _ passed is_above later) = no_package name parent found later

-- a dependency that is needed and found nowhere is a problem
pub what_is_needed_is_not_left_out : ¬ IsOutcome nothing (codes "") nothing false (codes "a") asked fine
what_is_needed_is_not_left_out (absent none unneeded) = cc unneeded
what_is_needed_is_not_left_out (valid found is outside verdict) = no_package _ _ found is

-- ---- two specs, of which one is accepted too

pub a_tag_hides_an_invalid_one : better Invalid (Unchecked Tag) ≡ Unchecked Tag
a_tag_hides_an_invalid_one = refl

pub the_first_reason_counts : better (Unchecked Location) (Unchecked Tag) ≡ Unchecked Location
the_first_reason_counts = refl

-- ---- the value of a dependency

-- an asker that the lock file marks
abbrev marked : Data
marked = object (member (codes "dev") (boolean true) (member (codes "version") (string (codes "1.0.0")) no_members))

pub of_a_marked_package : dependency_of marked (edge_of (codes "node_modules/b") (codes "a") (record asked { is_needed = false }) None)
    ≡ record {
      from = codes "node_modules/b";
      from_version = Some (codes "1.0.0");
      name = codes "a";
      spec = codes "^1";
      to = None;
      version = None;
      dev = true;
      optional = true;
      peer = false;
    }
of_a_marked_package = refl

-- ---- a rule of `overrides` that is not read

-- a dependency that is not checked is no problem
pub no_problem_where_the_rule_is_not_read : (found : Package)
    → ¬ IsVerdictOn (codes "node_modules/z") nothing (codes "b") (changed_by (Some unread) (codes "node_modules/z") asked)
    found Invalid
no_problem_where_the_rule_is_not_read found (by_spec verdict outside known both) = cc known

-- ---- engines: an optional package is not asked

abbrev with_engine : Data → Data
with_engine mark = object (member (codes "engines") (object (member (codes "node") (string (codes ">=18")) no_members))
    (member (codes "optional") mark no_members))

pub a_package_is_asked : engine_of (with_engine (boolean false)) ≡ Some (codes ">=18")
a_package_is_asked = refl

pub an_optional_one_is_not : engine_of (with_engine (boolean true)) ≡ None
an_optional_one_is_not = refl

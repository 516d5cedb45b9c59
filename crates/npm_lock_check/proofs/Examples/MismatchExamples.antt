-- What the definitions say of a manifest and a lock file.
use Rattle.std.proofs.Common.{◌≡◌, ◌∙◌, ◌∷◌, ◌++◌, ℕ, List, [], None, Option, Some, arith, codes, false, inl, refl, suc}
use Rattle.std.proofs.Common.{sym, true, zero}
use Rattle.std.specs.List.{Contains, cons_option, filter_map}
use Rattle.serde_json.specs.Data.{Data, member, no_members, number, object, string, unsigned}
use Rattle.npm_lock.specs.ManifestPlace.{as_package}
use Rattle.npm_lock.specs.Mismatches.{AreMismatches, MismatchValue, mismatch_of}
use Rattle.npm_lock.specs.declared.group.Group.TheVariants.{Dependencies, DevDependencies}
use Rattle.npm_lock_check.specs.Report.{is_compared, manifests_of, placed}

-- an object with one member, a package that depends on `a`, and a lock file whose root depends on it
abbrev one : (key : List ℕ) → Data → Data
one key value = object (member key value no_members)

abbrev asks : (spec : List ℕ) → Data
asks spec = one (codes "dependencies") (one (codes "a") (string spec))

abbrev lock_of : (root : Data) → Data
lock_of root = object (member (codes "lockfileVersion") (number (unsigned 3))
    (member (codes "packages") (one [] root) no_members))

abbrev old_lock : Data
old_lock = one (codes "dependencies") (object no_members)

-- ---- one name

abbrev on_a : (spec locked : Option (List ℕ)) → MismatchValue
on_a spec locked = record { from = []; group = Dependencies; name = codes "a"; spec = spec; locked = locked }

pub another_spec : mismatch_of [] (asks (codes "^2")) (asks (codes "^1")) Dependencies (codes "a")
    ≡ Some (on_a (Some (codes "^2")) (Some (codes "^1")))
another_spec = refl

pub the_same_spec : mismatch_of [] (asks (codes "^1")) (asks (codes "^1")) Dependencies (codes "a") ≡ None
the_same_spec = refl

-- specs are compared by their bytes, and not by what they admit
pub the_same_range_in_other_words : mismatch_of [] (asks (codes "^1")) (asks (codes "1.x")) Dependencies (codes "a")
    ≡ Some (on_a (Some (codes "^1")) (Some (codes "1.x")))
the_same_range_in_other_words = refl

pub absent_from_the_manifest : mismatch_of [] (object no_members) (asks (codes "^1")) Dependencies (codes "a")
    ≡ Some (on_a None (Some (codes "^1")))
absent_from_the_manifest = refl

pub another_group : mismatch_of [] (asks (codes "^2")) (asks (codes "^1")) DevDependencies (codes "a") ≡ None
another_group = refl

-- a name of `optionalDependencies` is compared there
pub an_optional_name : mismatch_of [] (object (member (codes "dependencies") (one (codes "a") (string (codes "^2")))
    (member (codes "optionalDependencies") (one (codes "a") (string (codes "^2"))) no_members)))
    (asks (codes "^1")) Dependencies (codes "a") ≡ None
an_optional_name = refl

-- ---- a manifest and a lock file

pub the_manifest_is_in_the_roots_place : placed (lock_of (asks (codes "^1")))
    (manifests_of (Some (asks (codes "^2"))) [])
    ≡ lock_of (as_package (asks (codes "^2")))
the_manifest_is_in_the_roots_place = refl

pub they_are_compared : is_compared (lock_of (asks (codes "^1"))) (Some (asks (codes "^2"))) ≡ true
they_are_compared = refl

pub version_one_is_not_compared : is_compared old_lock (Some (asks (codes "^2"))) ≡ false
version_one_is_not_compared = refl

pub version_one_stays : placed old_lock (manifests_of (Some (asks (codes "^2"))) []) ≡ old_lock
version_one_stays = refl

pub nothing_is_compared_without_a_manifest : is_compared (lock_of (asks (codes "^1"))) None ≡ false
nothing_is_compared_without_a_manifest = refl

-- ---- no mismatch is left out

rest_none : {Y : Type 0} (first : Option Y) (rest : List Y) → cons_option first rest ≡ [] → rest ≡ []
rest_none None rest is = is
rest_none (Some y) rest is = cc is

first_none : {Y : Type 0} (a b c d : List Y) → [] ≡ ((a ++ b) ++ c) ++ d → a ≡ []
first_none [] b c d is = refl
first_none (x ∷ a) b c d is = cc is

module _ {X Y : Type 0} (f : X → Option Y) (x : X) (y : Y) (gives : f x ≡ Some y) where
  found_there : (xs : List X) → Contains xs x → ¬ (filter_map f xs ≡ [])
  found_there [] (k, small, is) none = absurd (omega (arith, small))
  found_there (first ∷ rest) (zero, small, is) none = cc (gives, is, none)
  found_there (first ∷ rest) (suc k, small, is) none = found_there rest (k, omega arith, is)
      (rest_none (f first) (filter_map f rest) none)

pub a_mismatch_is_not_left_out : ¬ AreMismatches (lock_of (asks (codes "^1"))) [] (asks (codes "^2")) []
a_mismatch_is_not_left_out found =
    let none = first_none found.dependencies found.development found.optional found.peers found.whole in
    found_there (mismatch_of [] (asks (codes "^2")) (asks (codes "^1")) Dependencies)
    (codes "a") (on_a (Some (codes "^2")) (Some (codes "^1"))) refl
    found.of_dependencies.names ((found.of_dependencies.are_names.all (codes "a")).1 (inl refl))
    (sym found.of_dependencies.each ∙ none)

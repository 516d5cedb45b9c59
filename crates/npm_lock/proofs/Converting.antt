-- What a file of version 1 is converted to has no fault, if the file has none.
use Rattle.std.proofs.Common.{◌≡◌, ◌∙◌, ℕ, List, [], ◌∷◌, Bool, true, false, Option, Some, None, codes, refl}
use Rattle.std.proofs.Common.{ap, if◌then◌else◌, is_eq, is_some, Ordering, Less, Equal, Greater, nat_cmp}
use Rattle.std.specs.Float.Ieee.{eq, of_int}
use Rattle.std.specs.Cmp.Lexicographic.{slice_cmp}
use Rattle.std.specs.Option.{option_or}
use Rattle.std.specs.Ordering.{match_ordering}
use Rattle.std.specs.Prelude.{◌||◌, ◌&&◌, ◌==◌, length, not, option_and_then, option_map, unwrap_or}
use Rattle.serde_json.proofs.OnLiterals.{serde_json_on_literals}
use Rattle.serde_json.specs.Data.{Data, Members, member, no_members, object, put, string}
use Rattle.serde_json.specs.Find.{as_null, as_object, get}
use Rattle.npm_packages.specs.Faults as Places
use Rattle.npm_packages.specs.Faults.{has_patterns, has_text_version, link_fault, lock_fault, member_fault, members_fault}
use Rattle.npm_packages.specs.Faults.{package_fault}
use Rattle.npm_packages.specs.Folders.{is_folder}
use Rattle.npm_texts.specs.Lemmas.Keys.{exact}
use Rattle.npm_packages.specs.Faults.{specs_fault}
use Rattle.npm_packages.specs.Packages.{Package, is_link}
use Rattle.npm_lock.specs.VersionOne as VersionOne
use Rattle.npm_lock.specs.VersionOne.{any_fault, converted, entry_fault, file_of, has_named, is_version_one}
use Rattle.npm_lock.specs.VersionOne.{manifest_fault, member_of, packages_below, packages_of, placed_fault, required_of}
use Rattle.npm_lock.specs.VersionOne.{requires_fault}
use Rattle.npm_lock.specs.VersionOne.{version_one_fault, with_packages, with_some}
use Rattle.npm_lock.specs.Identity.{name_in, version_in}
use Rattle.npm_packages.specs.declared.fault.Fault.{Fault}
use Rattle.npm_packages.specs.declared.fault.Fault.TheVariants as Faults

-- ---- one package

-- the members of a package, whatever they are
abbrev made_of : (version name : Option (List ℕ)) (optional dev required : Option Data) → Data
made_of version name optional dev required = object (with_some (codes "version") (option_map string version)
    (with_some (codes "optional") optional (with_some (codes "name") (option_map string name)
    (with_some (codes "dev") dev (with_some (codes "dependencies") required no_members)))))

abbrev required_fault : (required : Option Data) → Option Fault
required_fault required = option_and_then
    (λ specs. if is_some (as_null specs) then None else specs_fault (as_object specs)) required

or_none : {A : Type 0} (first : Option A) → option_or (option_or first None) None ≡ first
or_none None = refl
or_none (Some x) = refl

made_sound : (packages : Data) (version name : Option (List ℕ)) (optional dev required : Option Data)
    → Places.entry_fault packages (made_of version name optional dev required) ≡ required_fault required
unfolding serde_json_on_literals
made_sound packages None None None None None = refl
made_sound packages None None None None (Some r) = or_none _
made_sound packages None None None (Some d) None = refl
made_sound packages None None None (Some d) (Some r) = or_none _
made_sound packages None None (Some o) None None = refl
made_sound packages None None (Some o) None (Some r) = or_none _
made_sound packages None None (Some o) (Some d) None = refl
made_sound packages None None (Some o) (Some d) (Some r) = or_none _
made_sound packages None (Some n) None None None = refl
made_sound packages None (Some n) None None (Some r) = or_none _
made_sound packages None (Some n) None (Some d) None = refl
made_sound packages None (Some n) None (Some d) (Some r) = or_none _
made_sound packages None (Some n) (Some o) None None = refl
made_sound packages None (Some n) (Some o) None (Some r) = or_none _
made_sound packages None (Some n) (Some o) (Some d) None = refl
made_sound packages None (Some n) (Some o) (Some d) (Some r) = or_none _
made_sound packages (Some v) None None None None = refl
made_sound packages (Some v) None None None (Some r) = or_none _
made_sound packages (Some v) None None (Some d) None = refl
made_sound packages (Some v) None None (Some d) (Some r) = or_none _
made_sound packages (Some v) None (Some o) None None = refl
made_sound packages (Some v) None (Some o) None (Some r) = or_none _
made_sound packages (Some v) None (Some o) (Some d) None = refl
made_sound packages (Some v) None (Some o) (Some d) (Some r) = or_none _
made_sound packages (Some v) (Some n) None None None = refl
made_sound packages (Some v) (Some n) None None (Some r) = or_none _
made_sound packages (Some v) (Some n) None (Some d) None = refl
made_sound packages (Some v) (Some n) None (Some d) (Some r) = or_none _
made_sound packages (Some v) (Some n) (Some o) None None = refl
made_sound packages (Some v) (Some n) (Some o) None (Some r) = or_none _
made_sound packages (Some v) (Some n) (Some o) (Some d) None = refl
made_sound packages (Some v) (Some n) (Some o) (Some d) (Some r) = or_none _

-- the last of three tests
last : (a b c : Bool) (x y z : Fault) (rest : Option Fault)
    → (if a then Some x else (if b then Some y else (if c then Some z else rest))) ≡ None → rest ≡ None
last false false false x y z rest is = is
last false false true x y z rest is = cc is
last false true c x y z rest is = cc is
last true b c x y z rest is = cc is

entry_sound : (packages entry : Data) (folder : List ℕ) → entry_fault entry ≡ None
    → Places.entry_fault packages (member_of folder entry) ≡ None
entry_sound packages entry folder none =
    made_sound packages (version_in folder entry) (name_in folder entry) (get (codes "optional") entry) (get (codes "dev") entry) (required_of entry)
    ∙ last (not (is_some (as_object entry))) (not (has_text_version entry)) (not (has_named entry)) Faults.Entry
    Faults.PackageVersion Faults.Dependencies (requires_fault entry) none

-- it has no `workspaces`
made_patterns : (version name : Option (List ℕ)) (optional dev required : Option Data)
    → has_patterns (made_of version name optional dev required) ≡ true
unfolding serde_json_on_literals
made_patterns None None None None None = refl
made_patterns None None None None (Some r) = refl
made_patterns None None None (Some d) None = refl
made_patterns None None None (Some d) (Some r) = refl
made_patterns None None (Some o) None None = refl
made_patterns None None (Some o) None (Some r) = refl
made_patterns None None (Some o) (Some d) None = refl
made_patterns None None (Some o) (Some d) (Some r) = refl
made_patterns None (Some n) None None None = refl
made_patterns None (Some n) None None (Some r) = refl
made_patterns None (Some n) None (Some d) None = refl
made_patterns None (Some n) None (Some d) (Some r) = refl
made_patterns None (Some n) (Some o) None None = refl
made_patterns None (Some n) (Some o) None (Some r) = refl
made_patterns None (Some n) (Some o) (Some d) None = refl
made_patterns None (Some n) (Some o) (Some d) (Some r) = refl
made_patterns (Some v) None None None None = refl
made_patterns (Some v) None None None (Some r) = refl
made_patterns (Some v) None None (Some d) None = refl
made_patterns (Some v) None None (Some d) (Some r) = refl
made_patterns (Some v) None (Some o) None None = refl
made_patterns (Some v) None (Some o) None (Some r) = refl
made_patterns (Some v) None (Some o) (Some d) None = refl
made_patterns (Some v) None (Some o) (Some d) (Some r) = refl
made_patterns (Some v) (Some n) None None None = refl
made_patterns (Some v) (Some n) None None (Some r) = refl
made_patterns (Some v) (Some n) None (Some d) None = refl
made_patterns (Some v) (Some n) None (Some d) (Some r) = refl
made_patterns (Some v) (Some n) (Some o) None None = refl
made_patterns (Some v) (Some n) (Some o) None (Some r) = refl
made_patterns (Some v) (Some n) (Some o) (Some d) None = refl
made_patterns (Some v) (Some n) (Some o) (Some d) (Some r) = refl

-- a package in a folder, which is no fault of its own
placed_of : (f r p : Bool) (x y : Fault) (rest own : Option Fault) → (if f then own else Some x) ≡ None → p ≡ true
    → (own ≡ None → rest ≡ None) → (if not f then Some x else (if r && not p then Some y else rest)) ≡ None
placed_of true true true x y rest own none is sound = sound none
placed_of true false true x y rest own none is sound = sound none
placed_of true r false x y rest own none is sound = cc is
placed_of false r p x y rest own none is sound = cc none

placed_sound : (packages : Data) (p : Package) → placed_fault p ≡ None
    → member_fault packages p.folder (member_of p.folder p.member) ≡ None
placed_sound packages p none =
    placed_of (is_folder p.folder) (length p.folder == 0) (has_patterns (member_of p.folder p.member)) Faults.Folder
    Faults.Workspaces (Places.entry_fault packages (member_of p.folder p.member)) (entry_fault p.member) none
    (made_patterns (version_in p.folder p.member) (name_in p.folder p.member) (get (codes "optional") p.member)
    (get (codes "dev") p.member) (required_of p.member)) (entry_sound packages p.member p.folder)

-- ---- members of `packages`

both_none : {A : Type 0} (first later : Option A) → first ≡ None → later ≡ None → option_or first later ≡ None
both_none first later is others = rw (is, others) refl

first_none : {A : Type 0} (first later : Option A) → option_or first later ≡ None → first ≡ None
first_none None later is = refl
first_none (Some x) later is = cc is

later_none : {A : Type 0} (first later : Option A) → option_or first later ≡ None → later ≡ None
later_none None later is = is
later_none (Some x) later is = cc is

-- one more member, or another value for a key
one_of : (packages : Data) (o : Ordering) (a b c : Members) → members_fault packages a ≡ None
    → (o ≡ Equal → members_fault packages b ≡ None) → members_fault packages c ≡ None
    → members_fault packages (match_ordering o a b c) ≡ None
one_of packages Less a b c first second third = first
one_of packages Equal a b c first second third = second refl
one_of packages Greater a b c first second third = third

put_sound : (packages : Data) (key : List ℕ) (value : Data) (members : Members) → member_fault packages key value ≡ None
    → members_fault packages members ≡ None → members_fault packages (put key value members) ≡ None
put_sound packages key value no_members sound none = both_none (member_fault packages key value) None sound refl
put_sound packages key value (member name entry others) sound none =
    let here = first_none (member_fault packages name entry) (members_fault packages others) none in
    let later = later_none (member_fault packages name entry) (members_fault packages others) none in
    one_of packages (slice_cmp nat_cmp key name) (member key value (member name entry others))
    (member name value others) (member name entry (put key value others))
    (both_none (member_fault packages key value) (members_fault packages (member name entry others)) sound none)
    (λ equal.
    let same : key ≡ name = exact key name (ap is_eq equal) in
    both_none (member_fault packages name value) (members_fault packages others) (rw same at sound) later)
    (both_none (member_fault packages name entry) (members_fault packages (put key value others)) here
    (put_sound packages key value others sound later))

all_sound : (packages : Data) (list : List Package) (base : Members) → VersionOne.packages_fault list ≡ None
    → members_fault packages base ≡ None → members_fault packages (with_packages list base) ≡ None
all_sound packages [] base none sound = sound
all_sound packages (p ∷ list) base none sound =
    all_sound packages list (put p.folder (member_of p.folder p.member) base)
    (later_none (placed_fault p) (VersionOne.packages_fault list) none)
    (put_sound packages p.folder (member_of p.folder p.member) base
    (placed_sound packages p (first_none (placed_fault p) (VersionOne.packages_fault list) none)) sound)

-- ---- the root

tested : (is_object is_link has : Bool) (x : Fault) (link own : Option Fault) (y z : Fault)
    → (if not is_object || is_link then Some x else (if has then own else Some z)) ≡ None
    → (if not has then Some z else (if is_object then (if is_link then link else own) else Some y)) ≡ None
tested true false true x link own y z is = is
tested true false false x link own y z is = cc is
tested true true has x link own y z is = cc is
tested false b has x link own y z is = cc is

root_sound : (packages : Data) (manifest : Option Data) → option_and_then manifest_fault manifest ≡ None
    → member_fault packages [] (unwrap_or manifest (object no_members)) ≡ None
unfolding serde_json_on_literals
root_sound packages None is = refl
root_sound packages (Some m) is = tested (is_some (as_object m)) (is_link m) (has_patterns m) Faults.Manifest
    (link_fault packages m) (package_fault m) Faults.Package Faults.Workspaces is

-- ---- all of it

file_fault : (all : Members) → lock_fault (file_of (object all)) ≡ members_fault (object all) all
unfolding eq of_int serde_json_on_literals
file_fault all = refl

below_sound : (has : Bool) (below : Option Fault) (x : Fault) → (if has then below else Some x) ≡ None → below ≡ None
below_sound true below x is = is
below_sound false below x is = cc is

pub file_sound : (lock : Data) (manifest : Option Data) → version_one_fault lock manifest ≡ None
    → lock_fault (file_of (packages_of lock manifest)) ≡ None
file_sound lock manifest none =
    let below = VersionOne.packages_fault (packages_below [] lock) in
    let own = if has_named lock then below else Some Faults.Dependencies in
    let first : own ≡ None = first_none own (option_and_then manifest_fault manifest) none in
    let later : option_and_then manifest_fault manifest ≡ None =
    later_none own (option_and_then manifest_fault manifest) none in
    let root = member [] (unwrap_or manifest (object no_members)) no_members in
    let members = with_packages (packages_below [] lock) root in
    file_fault members ∙ all_sound (object members) (packages_below [] lock) root
    (below_sound (has_named lock) below Faults.Dependencies first)
    (both_none (member_fault (object members) [] (unwrap_or manifest (object no_members))) None
    (root_sound (object members) manifest later) refl)

-- the converted file has the fault of the first one
pub same_fault : (lock : Data) (manifest : Option Data) → is_version_one lock ≡ true
    → version_one_fault lock manifest ≡ None → lock_fault (converted lock manifest) ≡ any_fault lock manifest
same_fault lock manifest is none = rw (is, none) (file_sound lock manifest none)

pub stays : (lock : Data) (manifest : Option Data) → is_version_one lock ≡ false
    → lock_fault (converted lock manifest) ≡ any_fault lock manifest
stays lock manifest is = rw is refl

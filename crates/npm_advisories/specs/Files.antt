-- A file of advisories, in npm's form or in OSV's: what its advisories are, and which value is no such file.
use Rattle.std.specs.Prelude.{◌≡◌, ℕ, List, [], Bool, bytes_eq, if◌then◌else◌, Option, Some, codes, is_some, option_map}
use Rattle.std.specs.List.{list_any}
use Rattle.std.specs.Option.{option_map_or}
use Rattle.serde_json.specs.Data.{Data}
use Rattle.serde_json.specs.Find.{as_array, as_object}
use Rattle.npm_advisories.specs.Advisories.{AdvisoryValue, npm_members, text_of}
use Rattle.npm_advisories.specs.Faults.{FaultValue, fault_at, fault_value, npm_file_fault}
use Rattle.npm_advisories.specs.Ids.{id_in}
use Rattle.npm_advisories.specs.OsvFaults.{osv_fault, osv_list_fault}
use Rattle.npm_advisories.specs.OsvForm.{osv_advisories, osv_list}
use Rattle.npm_advisories.specs.OsvPackages.{told_name}
use Rattle.npm_advisories.specs.VersionTest.{IsVersionTest}
use Rattle.toml_datetime.specs.declared.datetime.Date.{Date}
use Rattle.npm_advisories.specs.declared.fault.AuditError.{AuditError}
use Rattle.npm_advisories.specs.declared.fault.AuditError.TheVariants as Errors

-- A list is OSV's form, and so is an object whose `id` is a string. In npm's form each member is a list, also that of a
-- package whose name is `id`
abbrev pub is_osv : (file : Data) → Bool
is_osv file = is_some (text_of (codes "id") file)

-- The advisories of a file that are not withdrawn today, in its order: in npm's form in the order of the names' bytes
abbrev pub advisories_of : (today : Date) → (file : Data) → List AdvisoryValue
advisories_of today file = option_map_or (osv_list today) (as_array file)
    (if is_osv file then osv_advisories today file else option_map_or npm_members (as_object file) [])

-- The fault of a file, if it has one: advisories about packages that are not wanted are not read. The fault has the
-- place of the advisory in a list, and for one OSV object the place 0
abbrev pub file_fault : (today : Date) → (is_version is_wanted : List ℕ → Bool) → (file : Data) → Option FaultValue
file_fault today is_version is_wanted file = option_map_or (osv_list_fault today is_version is_wanted 0) (as_array file)
    (if is_osv file then option_map (fault_at (told_name is_wanted file) 0 (id_in file))
    (osv_fault today is_version is_wanted file) else npm_file_fault is_wanted file)

-- the name is one of these
abbrev pub is_among : (names : List (List ℕ)) → (name : List ℕ) → Bool
is_among names name = list_any (λ other. bytes_eq other name) names

-- this is the fault of the file where packages with these names are installed, or it has none
abbrev pub IsFileFault : (today : Date) → (names : List (List ℕ)) → (file : Data) → Option FaultValue → Type 0
IsFileFault today names file fault = (is_version : List ℕ → Bool) → IsVersionTest is_version
    → file_fault today is_version (is_among names) file ≡ fault

-- there is no audit because of this fault, or because an allocation failed
abbrev pub IsAuditError : (today : Date) → (names : List (List ℕ)) → (file : Data) → AuditError → Type 0
IsAuditError today names file (Errors.Refused at) = IsFileFault today names file (Some (fault_value at))
IsAuditError today names file Errors.Memory = Unit {0}

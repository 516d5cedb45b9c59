-- The advisories of some files in npm's form and in OSV's, and the faults of others.
use Rattle.std.proofs.Common.{◌≡◌, ◌∷◌, [], List, ℕ, Some, None, arith, codes, false, map, refl, true}
use Rattle.serde_json.specs.Data.{Data, Items, array, item, member, no_items, no_members, null, object, string}
use Rattle.toml_datetime.proofs.OnLiterals.{toml_datetime_on_literals}
use Rattle.toml_datetime.specs.declared.datetime.Date.{Date}
use Rattle.semver_versions.specs.Lemmas.Public.{is-version_in, version_in}
use Rattle.node_semver.specs.Versions.{IsVersionText, release}
use Rattle.npm_advisories.specs.Advisories.{AboutValue, in_osv, range_text}
use Rattle.npm_advisories.specs.KnownIds.{is_known_as}
use Rattle.npm_advisories.specs.OsvForm.{osv_about}
use Rattle.npm_advisories.specs.Faults.{fault_at}
use Rattle.npm_advisories.specs.Files.{IsFileFault, advisories_of}
use Rattle.npm_advisories.specs.Ids.{text as id_text}
use Rattle.npm_advisories.specs.OsvRanges.{fixed, introduced}
use Rattle.npm_advisories.specs.Severities.{is_at_least, severity_of_text}
use Rattle.npm_advisories.specs.Timestamps.{day_of, is_timestamp}
use Rattle.npm_advisories.specs.declared.fault.FaultKind.TheVariants as Faults
use Rattle.npm_advisories.specs.declared.severity.Severity.TheVariants.{Critical, High, Low, Moderate, Unknown}

two : IsVersionText (codes "2.0.0") (release 2 0 0)
unfolding version_in
two = is-version_in _ _ (omega arith) refl

-- the day on which advisories are asked
abbrev today : Date
today = record { year = 2024; month = 2; day = 29 }

-- an object with one member
abbrev only : (key : List ℕ) → Data → Data
only key value = object (member key value no_members)

-- ---- npm's form

abbrev in_npm : Data
in_npm = only (codes "a") (array (item (object (member (codes "id") (string (codes "N"))
    (member (codes "vulnerable_versions") (string (codes "<2")) no_members))) no_items))

abbrev unsaid : (id : List ℕ) → AboutValue
unsaid id = record { id = string id; severity = Unknown; title = None; url = None; aliases = no_items }

pub an_object_with_lists_is_npms_form : advisories_of today in_npm
    ≡ record { name = codes "a"; about = unsaid (codes "N"); affected = range_text (codes "<2") } ∷ []
an_object_with_lists_is_npms_form = refl

-- ---- OSV's form

-- an element of `affected` about a package of this ecosystem
abbrev element : (ecosystem : List ℕ) → (ranges : Items) → Data
element ecosystem ranges = object (member (codes "package") (object (member (codes "ecosystem") (string ecosystem)
    (member (codes "name") (string (codes "a")) no_members))) (member (codes "ranges") (array ranges) no_members))

-- a range of this type, from the start up to this text
abbrev up_to : (type : List ℕ) → (text : List ℕ) → Data
up_to type text = object (member (codes "type") (string type) (member (codes "events") (array
    (item (only (codes "introduced") (string (codes "0"))) (item (only (codes "fixed") (string text)) no_items)))
    no_members))

abbrev osv_of : Items → Data
osv_of affected = object (member (codes "affected") (array affected) (member (codes "id") (string (codes "O"))
    no_members))

abbrev in_osvs : Data
in_osvs = osv_of (item (element (codes "npm") (item (up_to (codes "SEMVER") (codes "2.0.0")) no_items)) no_items)

pub an_object_with_an_id_is_osvs_form : advisories_of today in_osvs ≡ record {
  name = codes "a";
  about = unsaid (codes "O");
  affected = in_osv ((introduced (codes "0") ∷ fixed (codes "2.0.0") ∷ []) ∷ []) [];
} ∷ []
an_object_with_an_id_is_osvs_form = refl

pub a_list_is_osvs_form : advisories_of today (array (item in_osvs no_items)) ≡ advisories_of today in_osvs
a_list_is_osvs_form = refl

pub the_database_gives_the_severity : advisories_of today (object (member (codes "affected") (array
    (item (element (codes "npm") no_items) no_items)) (member (codes "database_specific")
    (only (codes "severity") (string (codes "HIGH"))) (member (codes "id") (string (codes "O")) no_members)))) ≡ record {
      name = codes "a";
      about = record { id = string (codes "O"); severity = High; title = None; url = None; aliases = no_items };
      affected = in_osv [] [];
    } ∷ []
the_database_gives_the_severity = refl

-- ---- elements that are passed over

pub another_ecosystem_is_passed_over : advisories_of today (osv_of (item (element (codes "PyPI") no_items) no_items)) ≡ []
another_ecosystem_is_passed_over = refl

pub an_ecosystem_range_is_read : advisories_of today (osv_of (item (element (codes "npm")
    (item (up_to (codes "ECOSYSTEM") (codes "2.0.0")) no_items)) no_items)) ≡ advisories_of today in_osvs
an_ecosystem_range_is_read = refl

-- an advisory that is taken back at this time
abbrev withdrawn : (time : List ℕ) → Data
withdrawn time = object (member (codes "affected") (array
    (item (element (codes "npm") (item (up_to (codes "SEMVER") (codes "2.0.0")) no_items)) no_items))
    (member (codes "id") (string (codes "O")) (member (codes "withdrawn") (string time) no_members)))

pub a_withdrawn_advisory_is_none : advisories_of today (withdrawn (codes "2024-02-29T23:59:59Z")) ≡ []
unfolding toml_datetime_on_literals
a_withdrawn_advisory_is_none = refl

-- it counts until then
pub withdrawn_tomorrow : advisories_of today (withdrawn (codes "2024-03-01T00:00:00Z")) ≡ advisories_of today in_osvs
unfolding toml_datetime_on_literals
withdrawn_tomorrow = refl

-- ---- times

pub no_times : map is_timestamp ([] ∷ codes "2022-01-31" ∷ codes "2022-01-31T23:59:59" ∷ codes "2022-01-31 23:59:59Z"
    ∷ codes "2022-01-31T23:59:59.Z" ∷ codes "2022-01-31T23:59:59ZZ" ∷ [])
    ≡ false ∷ false ∷ false ∷ false ∷ false ∷ false ∷ []
no_times = refl

-- a day of the calendar, and a leap second
pub days : map day_of (codes "2024-02-29T23:59:60.5Z" ∷ []) ≡ Some today ∷ []
unfolding toml_datetime_on_literals
days = refl

pub no_days : map day_of (codes "9999-99-99T99:99:99Z" ∷ codes "2023-02-29T00:00:00Z" ∷ codes "2024-02-29T24:00:00Z" ∷ [])
    ≡ None ∷ None ∷ None ∷ []
unfolding toml_datetime_on_literals
no_days = refl

-- ---- ids

-- an advisory with this `id` in OSV's form, about no package, with an alias and an address
abbrev known : AboutValue
known = osv_about (object (member (codes "aliases") (array (item (string (codes "CVE-1")) no_items)) (member (codes "id")
    (string (codes "GHSA-1")) (member (codes "references") (array (item (only (codes "url") (string (codes "https://a/12")))
    no_items)) no_members))))

pub known_as : map (λ id. is_known_as id known) (codes "ghsa-1" ∷ codes "cve-1" ∷ codes "12" ∷ codes "CVE" ∷ codes "" ∷ [])
    ≡ true ∷ true ∷ false ∷ false ∷ false ∷ []
known_as = refl

-- ---- severities

pub the_words_of_npm : map severity_of_text (codes "low" ∷ codes "moderate" ∷ codes "high" ∷ codes "critical" ∷ [])
    ≡ Low ∷ Moderate ∷ High ∷ Critical ∷ []
the_words_of_npm = refl

-- `medium` is a word of CVSS, and none of npm's: the advisory is never left out
pub medium_is_no_word : severity_of_text (codes "medium") ≡ Unknown
medium_is_no_word = refl

pub moderate_is_between : is_at_least Moderate Low ∷ is_at_least Moderate Moderate ∷ is_at_least Moderate High ∷ []
    ≡ false ∷ true ∷ true ∷ []
moderate_is_between = refl

-- ---- faults

-- the names of installed packages
abbrev installed : List (List ℕ)
installed = codes "b" ∷ codes "a" ∷ []

pub a_version_has_no_fault : IsFileFault today installed in_osvs None
a_version_has_no_fault is_version told = rw (told.passes (codes "2.0.0") (release 2 0 0) two) refl

pub a_string_is_no_file : IsFileFault today installed (string []) (Some (fault_at [] 0 None Faults.File))
a_string_is_no_file is_version told = refl

-- an element about a repository alone has no `package`, or `null`
pub no_package_has_no_fault : IsFileFault today installed (osv_of (item (only (codes "package") null) (item (object no_members)
    no_items))) None
no_package_has_no_fault is_version told = refl

-- another type of a range, and none
pub another_type_is_a_fault : IsFileFault today installed (osv_of (item (element (codes "npm")
    (item (up_to (codes "semver") (codes "2.0.0")) no_items)) no_items))
    (Some (fault_at (codes "a") 0 (Some (id_text (codes "O"))) Faults.Type))
another_type_is_a_fault is_version told = refl

-- nor in an element with commits alone
pub commits_are_no_versions : IsFileFault today installed (osv_of (item (element (codes "npm")
    (item (up_to (codes "GIT") (codes "2.0.0")) no_items)) no_items))
    (Some (fault_at (codes "a") 0 (Some (id_text (codes "O"))) Faults.NoVersion))
commits_are_no_versions is_version told = refl

-- the second of a list has no `id`
pub a_fault_has_its_place : IsFileFault today installed (array (item in_osvs (item (only (codes "affected")
    (array (item (element (codes "npm") no_items) no_items))) no_items)))
    (Some (fault_at (codes "a") 1 None Faults.OsvId))
a_fault_has_its_place is_version told = rw (told.passes (codes "2.0.0") (release 2 0 0) two) refl

-- ---- advisories about packages that are not installed

-- neither an object without `id` about `a`, nor one that names no package
pub about_none_has_no_fault : IsFileFault today (codes "b" ∷ []) (array (item (only (codes "affected")
    (array (item (element (codes "npm") no_items) no_items))) (item (only (codes "affected") (array no_items)) no_items))) None
about_none_has_no_fault is_version told = refl

-- unless it is withdrawn
pub a_withdrawn_advisory_needs_none : IsFileFault today [] (array (item (object (member (codes "id") (string (codes "O"))
    (member (codes "withdrawn") (string (codes "2022-01-01T00:00:00Z")) no_members))) no_items)) None
unfolding toml_datetime_on_literals
a_withdrawn_advisory_needs_none is_version told = refl

-- in npm's form, and not in OSV's: `{"vulns": [{"affected": [], "id": "O"}]}`
pub osvs_form_under_a_name : IsFileFault today [] (only (codes "vulns") (array (item (osv_of no_items) no_items)))
    (Some (fault_at (codes "vulns") 0 (Some (id_text (codes "O"))) Faults.OsvUnderName))
osvs_form_under_a_name is_version told = refl

-- Which values are no OSV advisories that are read. What says which versions are hit has to be as the OSV schema says;
-- what only describes an advisory is ignored if it is not.
use Rattle.std.specs.Prelude.{◌||◌, ◌+◌, ℕ, List, Bool, false, if◌then◌else◌, Option, Some, None}
use Rattle.std.specs.Prelude.{bytes_eq, codes, is_some, option_and_then, option_map}
use Rattle.std.specs.Option.{option_map_or, option_or}
use Rattle.serde_json.specs.Data.{Data, Items, item, no_items}
use Rattle.serde_json.specs.Find.{as_object, as_str, get}
use Rattle.npm_advisories.specs.Advisories.{text_of}
use Rattle.npm_advisories.specs.Faults.{FaultValue, fault_at, first_fault, items_fault, text_fault}
use Rattle.npm_advisories.specs.Ids.{id_in}
use Rattle.npm_advisories.specs.OsvForm.{event_of, has_versions, is_ordered, is_withdrawn, items_at}
use Rattle.npm_advisories.specs.OsvPackages.{affected_list_fault, concerns, is_about_wanted, package_fault, told_name}
use Rattle.npm_advisories.specs.OsvRanges.{EventValue, fixed, introduced, last_affected, limit}
use Rattle.npm_advisories.specs.ReadVersions.{is_read}
use Rattle.npm_advisories.specs.Timestamps.{day_of}
use Rattle.toml_datetime.specs.declared.datetime.Date.{Date}
use Rattle.npm_advisories.specs.declared.fault.FaultKind.{FaultKind}
use Rattle.npm_advisories.specs.declared.fault.FaultKind.TheVariants as Faults

-- `id` is a string, and `withdrawn` is absent, or a string that is a time
abbrev pub osv_id_fault : (entry : Data) → Option FaultKind
osv_id_fault entry = if is_some (text_of (codes "id") entry) then None else Some Faults.OsvId

abbrev pub withdrawn_fault : (entry : Data) → Option FaultKind
withdrawn_fault entry = option_or (text_fault (codes "withdrawn") Faults.Withdrawn entry) (option_and_then
    (λ text. if is_some (day_of text) then None else Some Faults.Withdrawn) (text_of (codes "withdrawn") entry))

-- a range has one of the three types
abbrev pub type_fault : (range : Data) → Option FaultKind
type_fault range = if option_map_or (λ type. is_ordered type || bytes_eq type (codes "GIT"))
    (text_of (codes "type") range) false then None else Some Faults.Type

-- a member is a list, if it is there, and its items have no fault
abbrev pub each_fault : (key : List ℕ) → FaultKind → (fault_of : Data → Option FaultKind) → (one : Data) → Option FaultKind
each_fault key kind fault_of one = option_or (items_fault key kind one) (first_fault fault_of (items_at key one))

-- an event is `introduced`, and one of the events is
abbrev pub is_introduced : (event : Data) → Bool
is_introduced event = is_some (get (codes "introduced") event)

abbrev pub any_introduced : Items → Bool
any_introduced no_items = false
any_introduced (item event others) = is_introduced event || any_introduced others

-- one of them is: otherwise no version is in the range
abbrev pub introduced_fault : Items → Option FaultKind
introduced_fault events = if any_introduced events then None else Some Faults.NoStart

-- the items of `versions` are strings
abbrev pub version_text_fault : (value : Data) → Option FaultKind
version_text_fault value = if is_some (as_str value) then None else Some Faults.VersionText

abbrev pub versions_fault : (one : Data) → Option FaultKind
versions_fault one = each_fault (codes "versions") Faults.Versions version_text_fault one

-- one of the ranges has versions
abbrev pub any_has_versions : Items → Bool
any_has_versions no_items = false
any_has_versions (item range others) = has_versions range || any_has_versions others

module _ (is_version : List ℕ → Bool) where
  -- the text of an event is a version, the `0` that introduces, or the `*` that is no limit
  abbrev pub has_place : EventValue → Bool
  has_place (introduced text) = bytes_eq text (codes "0") || is_version text
  has_place (fixed text) = is_version text
  has_place (last_affected text) = is_version text
  has_place (limit text) = bytes_eq text (codes "*") || is_version text

  abbrev pub event_fault : (event : Data) → Option FaultKind
  event_fault event =
      option_map_or (λ e. if has_place e then None else Some Faults.Event) (event_of event) (Some Faults.Event)

  -- the fault of the `events` of a range that has versions
  abbrev pub events_fault : (range : Data) → Option FaultKind
  events_fault range = each_fault (codes "events") Faults.Events event_fault range

  abbrev pub osv_range_fault : (range : Data) → Option FaultKind
  osv_range_fault range = option_or (type_fault range) (if has_versions range
      then option_or (events_fault range) (introduced_fault (items_at (codes "events") range)) else None)

  abbrev pub ranges_fault : (one : Data) → Option FaultKind
  ranges_fault one = each_fault (codes "ranges") Faults.Ranges osv_range_fault one

  -- one of the listed versions is the text of one, as npm reads it or as it stands: `=1.2.3`, and not `1.2.x`
  abbrev pub any_read : Items → Bool
  any_read no_items = false
  any_read (item value others) = option_map_or (is_read is_version) (as_str value) false || any_read others

  -- An element of `affected` says which versions it is about, in `ranges` or in `versions`: one with ranges of type `GIT` alone
  -- does not
  abbrev pub no_version_fault : (one : Data) → Option FaultKind
  no_version_fault one = if any_has_versions (items_at (codes "ranges") one) || any_read (items_at (codes "versions") one)
      then None else Some Faults.NoVersion

  -- the `ranges` and the `versions` of an element of `affected`
  abbrev pub element_fault : (one : Data) → Option FaultKind
  element_fault one = option_or (ranges_fault one) (option_or (versions_fault one) (no_version_fault one))

module _ (is_version is_wanted : List ℕ → Bool) where
  -- an element of `affected` about a package that is not wanted, or of another ecosystem, is not read
  abbrev pub affected_fault : (one : Data) → Option FaultKind
  affected_fault one = option_or (package_fault one) (if is_about_wanted is_wanted one
      then element_fault is_version one else None)

module _ (today : Date) (is_version is_wanted : List ℕ → Bool) where
  -- nor is an object about no wanted package; a withdrawn one needs no `affected`
  abbrev pub osv_fault : (entry : Data) → Option FaultKind
  osv_fault entry = if is_some (as_object entry) then (if concerns is_wanted entry
      then option_or (osv_id_fault entry) (option_or (withdrawn_fault entry) (if is_withdrawn today entry then None
      else option_or (affected_list_fault entry) (first_fault (affected_fault is_version is_wanted) (items_at (codes "affected") entry))))
      else None) else Some Faults.Advisory

  -- the first fault of a list of objects, from this place on
  abbrev pub osv_list_fault : (place : ℕ) → Items → Option FaultValue
  osv_list_fault place no_items = None
  osv_list_fault place (item entry others) = option_or
      (option_map (fault_at (told_name is_wanted entry) place (id_in entry)) (osv_fault entry))
      (osv_list_fault (place + 1) others)

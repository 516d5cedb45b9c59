-- Which values are no advisories in npm's form that are read: npm's "npm audit", "Bulk Advisory Endpoint".
use Rattle.std.specs.Prelude.{◌||◌, ◌+◌, ℕ, List, [], ◌∷◌, Bool, true, false, if◌then◌else◌, Option, Some, None}
use Rattle.std.specs.Prelude.{is_some}
use Rattle.std.specs.Prelude.{option_and_then, option_map, codes}
use Rattle.std.specs.Option.{option_map_or, option_or}
use Rattle.serde_json.specs.Data.{Data, Items, Members, item, member, no_items, no_members}
use Rattle.serde_json.specs.Find.{as_array, as_null, as_number, as_object, as_str, get}
use Rattle.npm_semver.specs.NpmRanges.{alternatives_of, with_plain_spaces}
use Rattle.npm_advisories.specs.Advisories.{advisory_options, npm_range_text}
use Rattle.npm_advisories.specs.Ids.{IdValue, id_in, id_value}
use Rattle.npm_advisories.specs.declared.fault.Fault.{Fault}
use Rattle.npm_advisories.specs.declared.fault.FaultKind.{FaultKind}
use Rattle.npm_advisories.specs.declared.fault.FaultKind.TheVariants as Faults

-- What is wrong, and with which advisory. In npm's form this is the name that it stands under, and its place in the
-- list there, from 0; in OSV's form the first installed package that it is about, or the empty name, and its place in the list.
-- A file or a list that is none has no `id`
pub record FaultValue : Type 0 where
  pub kind : FaultKind
  pub name : List ℕ
  pub place : ℕ
  pub id : Option IdValue

abbrev pub fault_at : (name : List ℕ) → (place : ℕ) → Option IdValue → FaultKind → FaultValue
fault_at name place id kind = record { kind = kind; name = name; place = place; id = id }

-- ---- one advisory

-- `id` is a number or a string
abbrev pub is_id : Data → Bool
is_id value = is_some (as_number value) || is_some (as_str value)

abbrev pub id_fault : (entry : Data) → Option FaultKind
id_fault entry = if option_map_or is_id (get (codes "id") entry) false then None else Some Faults.Id

-- a member that is there is a string or `null`; otherwise it has this fault
abbrev pub text_fault : (key : List ℕ) → FaultKind → (entry : Data) → Option FaultKind
text_fault key kind entry = option_and_then
    (λ value. if is_some (as_null value) || is_some (as_str value) then None else Some kind) (get key entry)

-- a member that is there is a list or `null`; otherwise it has this fault
abbrev pub items_fault : (key : List ℕ) → FaultKind → (entry : Data) → Option FaultKind
items_fault key kind entry = option_and_then
    (λ value. if is_some (as_null value) || is_some (as_array value) then None else Some kind) (get key entry)

-- the first fault of the items
abbrev pub first_fault : (fault_of : Data → Option FaultKind) → Items → Option FaultKind
first_fault fault_of no_items = None
first_fault fault_of (item one others) = option_or (fault_of one) (first_fault fault_of others)

-- one of the members of an advisory in npm's form is there, beside `id`
abbrev pub has_member : (entry : Data) → Bool
has_member entry = is_some (get (codes "severity") entry) || is_some (get (codes "title") entry)
    || is_some (get (codes "url") entry) || is_some (get (codes "vulnerable_versions") entry)

-- What makes an entry an advisory in npm's form: it is an object with an `id`, and with another member of npm's form. One that
-- has `affected` is in OSV's form, and does not stand under a name. One as `{"id": "A", "modified": "2022-01-01T00:00:00Z"}`,
-- of an answer of OSV's service, is in neither.
abbrev pub form_fault : (entry : Data) → Option FaultKind
form_fault entry = if is_some (as_object entry) then option_or (id_fault entry)
    (if is_some (get (codes "affected") entry) then Some Faults.OsvUnderName
    else (if has_member entry then None else Some Faults.NoMember)) else Some Faults.Advisory

-- the fault of the other members that say what the advisory is
abbrev pub about_fault : (entry : Data) → Option FaultKind
about_fault entry = option_or (text_fault (codes "severity") Faults.Severity entry)
    (option_or (text_fault (codes "title") Faults.Title entry) (text_fault (codes "url") Faults.Url entry))

-- the list has nothing
abbrev pub is_nothing : {A : Type 0} → List A → Bool
is_nothing [] = true
is_nothing (x ∷ xs) = false

-- npm refuses the text as a range
abbrev pub is_no_range : (text : List ℕ) → Bool
is_no_range text = is_nothing (alternatives_of advisory_options (with_plain_spaces text))

-- `vulnerable_versions` is absent, or a string that is a range
abbrev pub range_fault : (entry : Data) → Option FaultKind
range_fault entry = option_or (text_fault (codes "vulnerable_versions") Faults.RangeText entry)
    (if is_no_range (npm_range_text entry) then Some Faults.Range else None)

-- the fault of an advisory, if it has one
abbrev pub npm_fault : (entry : Data) → Option FaultKind
npm_fault entry = option_or (form_fault entry) (option_or (about_fault entry) (range_fault entry))

-- ---- a file in npm's form

-- the first fault of a list under a name, from this place on
abbrev pub list_fault : (fault_of : Data → Option FaultKind) → (name : List ℕ) → (place : ℕ) → Items → Option FaultValue
list_fault fault_of name place no_items = None
list_fault fault_of name place (item entry others) = option_or
    (option_map (fault_at name place (id_in entry)) (fault_of entry))
    (list_fault fault_of name (place + 1) others)

module _ (is_wanted : List ℕ → Bool) where
  -- The fault of an advisory under a name. Where the name is not wanted, only the form is read: a file in another form is
  -- refused, and is no file of advisories about other packages.
  abbrev pub fault_under : (name : List ℕ) → (entry : Data) → Option FaultKind
  fault_under name = if is_wanted name then npm_fault else form_fault

  -- the first fault of the advisories under a name, which stand in a list
  abbrev pub member_fault : (name : List ℕ) → (list : Data) → Option FaultValue
  member_fault name list = option_map_or (list_fault (fault_under name) name 0) (as_array list)
      (Some (fault_at name 0 None Faults.List))

  -- the first fault of an object that has a list for each name
  abbrev pub members_fault : Members → Option FaultValue
  members_fault no_members = None
  members_fault (member name list others) = option_or (member_fault name list) (members_fault others)

  -- the fault of a file in npm's form, if it has one
  abbrev pub npm_file_fault : (file : Data) → Option FaultValue
  npm_file_fault file = option_map_or members_fault (as_object file)
      (Some (fault_at [] 0 None Faults.File))

-- ---- as a contract sees it

-- the fault of an advisory
abbrev pub fault_value : Fault → FaultValue
fault_value fault = fault_at fault.name.now fault.place (option_map id_value fault.id) fault.kind

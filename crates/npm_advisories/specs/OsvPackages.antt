-- Which packages an OSV object is about: the OSV schema's "affected[].package".
use Rattle.std.specs.Prelude.{◌||◌, ◌&&◌, ℕ, List, [], Bool, false, if◌then◌else◌, Option, Some, None}
use Rattle.std.specs.Prelude.{codes, is_some, option_and_then}
use Rattle.std.specs.Option.{option_map_or}
use Rattle.serde_json.specs.Data.{Data, Items, item, no_items}
use Rattle.serde_json.specs.Find.{as_array, as_null, as_object, get}
use Rattle.npm_advisories.specs.Advisories.{text_of}
use Rattle.npm_advisories.specs.OsvForm.{items_at, npm_name}
use Rattle.npm_advisories.specs.declared.fault.FaultKind.{FaultKind}
use Rattle.npm_advisories.specs.declared.fault.FaultKind.TheVariants as Faults

-- an OSV object says in `affected`, a list, which packages it is about
abbrev pub affected_list_fault : (entry : Data) → Option FaultKind
affected_list_fault entry =
    if is_some (option_and_then as_array (get (codes "affected") entry)) then None else Some Faults.Affected

-- `package` has an `ecosystem` and a `name`; an element about a repository alone has none, or `null`
abbrev pub package_fault : (one : Data) → Option FaultKind
package_fault one = if is_some (as_object one) then option_and_then (λ named. if is_some (as_null named)
    || (is_some (text_of (codes "ecosystem") named) && is_some (text_of (codes "name") named))
    then None else Some Faults.Package) (get (codes "package") one) else Some Faults.Package

module _ (is_wanted : List ℕ → Bool) where
  -- the element of `affected` is about a wanted package
  abbrev pub is_about_wanted : (one : Data) → Bool
  is_about_wanted one = option_map_or is_wanted (npm_name one) false

  -- it is, or its package cannot be read
  abbrev pub may_concern : (one : Data) → Bool
  may_concern one = is_some (package_fault one) || is_about_wanted one

  abbrev pub any_concerns : Items → Bool
  any_concerns no_items = false
  any_concerns (item one others) = may_concern one || any_concerns others

  -- the same of an OSV object, which may be about any package if it does not say which
  abbrev pub concerns : (entry : Data) → Bool
  concerns entry = is_some (affected_list_fault entry) || any_concerns (items_at (codes "affected") entry)

  -- the first wanted package that one of the elements is about; the empty name if there is none
  abbrev pub first_wanted : Items → List ℕ
  first_wanted no_items = []
  first_wanted (item one others) = option_map_or (λ name. if is_wanted name then name else first_wanted others)
      (npm_name one) (first_wanted others)

  -- the name in the fault of an OSV object
  abbrev pub told_name : (entry : Data) → List ℕ
  told_name entry = first_wanted (items_at (codes "affected") entry)

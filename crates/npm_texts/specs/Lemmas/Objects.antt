-- Objects and their members.
use Rattle.std.proofs.Common.{◌≡◌, ◌∙◌, ℕ, List, Option, Some, None, BTreeMap, Global, String, ap, option_and_then, refl}
use Rattle.serde_json.proofs.Views.{view-Object}
use Rattle.serde_json.specs.Data.{Data, Members, array, boolean, null, number, object, string}
use Rattle.serde_json.specs.Find.{as_object, get, get_member}
use Rattle.serde_json.specs.View.{members_view, view}
use Rattle.serde_json.specs.declared.value.Value.{Value, Object}

-- an object is one by its members
pub is_object_of : (d : Data) (ms : Members) → as_object d ≡ Some ms → d ≡ object ms
is_object_of null ms is = cc is
is_object_of (boolean b) ms is = cc is
is_object_of (number n) ms is = cc is
is_object_of (string s) ms is = cc is
is_object_of (array ds) ms is = cc is
is_object_of (object others) ms is = let same : others ≡ ms = cc is in ap object same

-- a name in a group, by the members of the group
pub in_group : (group : Option Data) (ms : Members) (name : List ℕ) → option_and_then as_object group ≡ Some ms
    → option_and_then (get name) group ≡ get_member name ms
in_group None ms name is = cc is
in_group (Some d) ms name is = rw (is_object_of d ms is) refl

no_member : (d : Data) (name : List ℕ) → as_object d ≡ None → get name d ≡ None
no_member null name is = cc
no_member (boolean b) name is = cc
no_member (number n) name is = cc
no_member (string s) name is = cc
no_member (array ds) name is = cc
no_member (object ms) name is = cc is

pub in_no_group : (group : Option Data) (name : List ℕ) → option_and_then as_object group ≡ None
    → option_and_then (get name) group ≡ None
in_no_group None name is = cc
in_no_group (Some d) name is = no_member d name is

-- a value that is an object
pub is_object : (entry : Value) (members : BTreeMap (String Global) Value) → entry ≡ Object members
    → view entry ≡ object (members_view members.entries)
is_object entry members is = ap view is ∙ view-Object members

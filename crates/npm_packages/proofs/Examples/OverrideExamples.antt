-- What the definitions say of `overrides`.
use Rattle.std.proofs.Common.{◌≡◌, [], true, false, Some, None, codes, refl}
use Rattle.serde_json.specs.Data.{Data, array, item, member, no_items, no_members, object, string}
use Rattle.npm_packages.specs.Asked.{AskedValue}
use Rattle.npm_packages.specs.Overrides.{changed_by, in_place, name_of, overridden, rule_for, unread}

-- ---- the name of a key

pub a_name_alone : name_of (codes "b") ≡ codes "b"
a_name_alone = refl

pub a_name_with_a_range : name_of (codes "b@^1") ≡ codes "b"
a_name_with_a_range = refl

pub a_name_with_a_scope : name_of (codes "@s/b@npm:c@2") ≡ codes "@s/b"
a_name_with_a_scope = refl

pub a_scope_without_a_range : name_of (codes "@s/b") ≡ codes "@s/b"
a_scope_without_a_range = refl

-- ---- rules

-- the root of a lock file, with these `overrides`
abbrev with_overrides : Data → Data
with_overrides overrides = object (member [] (object (member (codes "overrides") overrides no_members)) no_members)

-- `{"a": {"b": "3", ".": "4"}, "b": "2", "c": "2", "d@1": "2", "e": "$f"}`
abbrev packages : Data
packages = with_overrides (object
    (member (codes "a") (object (member (codes "b") (string (codes "3"))
    (member (codes ".") (string (codes "4")) no_members)))
    (member (codes "b") (string (codes "2"))
    (member (codes "c") (string (codes "2"))
    (member (codes "d@1") (string (codes "2"))
    (member (codes "e") (string (codes "$f")) no_members))))))

pub a_plain_rule : rule_for packages (codes "c") ≡ Some (in_place (codes "2"))
a_plain_rule = refl

pub a_rule_with_rules_inside : rule_for packages (codes "a") ≡ Some unread
a_rule_with_rules_inside = refl

pub two_rules_for_a_name : rule_for packages (codes "b") ≡ Some unread
two_rules_for_a_name = refl

pub a_rule_for_some_versions : rule_for packages (codes "d") ≡ Some unread
a_rule_for_some_versions = refl

pub a_rule_by_another_name : rule_for packages (codes "e") ≡ Some unread
a_rule_by_another_name = refl

pub no_rule_for_the_other_name : rule_for packages (codes "f") ≡ None
no_rule_for_the_other_name = refl

pub no_rule_for_a_key : rule_for packages (codes "d@1") ≡ None
no_rule_for_a_key = refl

pub no_rule_in_a_list : rule_for (with_overrides (array (item (string (codes "b")) no_items))) (codes "b") ≡ None
no_rule_in_a_list = refl

pub no_rule_in_a_file_without_a_root : rule_for (object no_members) (codes "b") ≡ None
no_rule_in_a_file_without_a_root = refl

-- ---- what they change

abbrev asked : AskedValue
asked = record { spec = codes "^1"; is_needed = true; is_peer = false; is_dev = false; is_overridden = false }

pub the_spec_of_the_rule : overridden packages (codes "node_modules/z") (codes "c") asked ≡ record asked
    { spec = codes "2" }
the_spec_of_the_rule = refl

pub also_for_the_root : overridden packages [] (codes "c") asked ≡ record asked { spec = codes "2" }
also_for_the_root = refl

pub not_for_a_workspace : overridden packages (codes "w") (codes "c") asked ≡ record asked { is_overridden = true }
not_for_a_workspace = refl

pub no_change_by_a_star : changed_by (Some (in_place (codes "*"))) (codes "w") asked ≡ asked
no_change_by_a_star = refl

pub no_change_of_another_name : overridden packages [] (codes "z") asked ≡ asked
no_change_of_another_name = refl

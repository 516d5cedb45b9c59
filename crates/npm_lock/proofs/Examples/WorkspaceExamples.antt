-- Which folders are workspaces, by patterns of the root.
use Rattle.std.proofs.Common.{◌≡◌, ℕ, List, Some, codes, refl}
use Rattle.serde_json.specs.Data.{Items, array, item, member, no_items, no_members, object, string}
use Rattle.npm_lock.specs.Workspaces.{IsByPatterns, patterns_of}
use Rattle.npm_lock.specs.declared.workspace.Workspace.TheVariants.{Is, IsNot, Unread}
use Rattle.npm_lock.proofs.Globs.Lists.{by-written}

abbrev one : List ℕ → Items
one pattern = item (string pattern) no_items

pub a_slash_at_the_start : IsByPatterns (codes "packages/a") (one (codes "/packages/*")) Is
a_slash_at_the_start = by-written _ _

-- npm takes `./` from the start of a text alone
pub a_dot_after_a_slash : IsByPatterns (codes "w") (one (codes "/./w")) IsNot
a_dot_after_a_slash = by-written _ _

pub up_after_a_folder : IsByPatterns (codes "w") (one (codes "a/../w")) Unread
up_after_a_folder = by-written _ _

pub a_mark_for_any_letter : IsByPatterns (codes "w") (one (codes "?")) Unread
a_mark_for_any_letter = by-written _ _

pub a_star_is_not_two : IsByPatterns (codes "packages/a/b") (one (codes "packages/*")) IsNot
a_star_is_not_two = by-written _ _

pub a_star_hides_no_dot : IsByPatterns (codes "packages/.a") (one (codes "packages/*")) IsNot
a_star_hides_no_dot = by-written _ _

pub two_stars_are_no_part_too : IsByPatterns (codes "packages") (one (codes "packages/**")) Is
two_stars_are_no_part_too = by-written _ _

pub a_folder_that_is_left_out : IsByPatterns (codes "w") (item (string (codes "*")) (one (codes "!w"))) Unread
a_folder_that_is_left_out = by-written _ _

pub a_list_of_packages : patterns_of (object (member (codes "workspaces")
    (object (member (codes "packages") (array (one (codes "w"))) no_members)) no_members)) ≡ Some (one (codes "w"))
a_list_of_packages = refl

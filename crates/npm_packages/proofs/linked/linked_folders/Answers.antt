-- `packages` is an object, or leads to no folder.
use Rattle.std.proofs.Common.{◌≡◌, ◌∙◌, None, Some, ap, codes, map, option_and_then, option_map, sym}
use Rattle.std.proofs.lemmas.Result.{IfOk-weaker}
use Rattle.serde_json.specs.Find.{as_object, get}
use Rattle.serde_json.specs.View.{members_view, view}
use Rattle.npm_packages.proofs.LinkedLists.{all_linked, none_linked}
use Rattle.npm_packages.proofs.linked.linked_folders.Goals as goal

pub returns-in_default : goal.returns-in_default
returns-in_default c =
    let none : option_and_then as_object (get (codes "packages") (view c.args.lock.now)) ≡ None =
    sym c.members_of.ensures ∙ ap (option_map (λ members. members_view members.now.entries)) c.in_default.is in
    rw c.new.ensures.items (none_linked (view c.args.lock.now) none)

pub returns : goal.returns
returns c =
    let some : option_and_then as_object (get (codes "packages") (view c.args.lock.now))
    ≡ Some (members_view c.in-Some.members.now.entries) =
    sym c.members_of.ensures ∙ ap (option_map (λ members. members_view members.now.entries)) c.in-Some.is in
    IfOk-weaker c.list_of.result _ _ (λ list keys. all_linked (view c.args.lock.now)
    (members_view c.in-Some.members.now.entries) c.in_ok-folders_of.field-0 (map (λ folder. folder.now) list.items)
    some c.in_ok-folders_of.ensures keys) c.list_of.ensures

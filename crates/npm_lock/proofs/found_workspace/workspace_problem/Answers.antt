-- The root is the member of the folder `""`, and the package is looked up among the same members.
use Rattle.std.proofs.Common.{◌≡◌, ◌∙◌, ℕ, List, [], None, Option, Some, ap, codes, option_and_then, option_map, refl, sym}
use Rattle.std.proofs.lemmas.Result.{IfOk-weaker}
use Rattle.serde_json.specs.Data.{Data, Members, object}
use Rattle.serde_json.specs.Find.{as_object, get}
use Rattle.serde_json.specs.View.{members_view, view}
use Rattle.npm_packages.specs.Folders.{place_in}
use Rattle.npm_lock.specs.FoundWorkspaces.{problem_with, workspace_problem}
use Rattle.npm_packages.specs.Packages.{Package, package_at}
use Rattle.npm_packages.specs.PackageValue.{package_value}
use Rattle.npm_lock.proofs.found_workspace.workspace_problem.Goals as goal

member_of : (member : Option Data) (root : Package) → option_map (λ m. record { folder = []; member = m }) member ≡ Some root
    → member ≡ Some root.member
member_of None root is = cc is
member_of (Some member) root is = ap (option_map (λ p. p.member)) is

whole : (lock : Data) (members : Members) (root : Data) (found : Option Package) (name folder : List ℕ)
    → option_and_then as_object (get (codes "packages") lock) ≡ Some members → get [] (object members) ≡ Some root
    → found ≡ package_at (object members) (place_in [] name)
    → problem_with root found name folder ≡ workspace_problem lock name folder
whole lock members root found name folder are there at = rw (are, there, at) refl

pub returns : goal.returns
returns c =
    let members = members_view c.in-Some.members.now.entries in
    let root = c.in-Some-package_in.root in
    let are : option_and_then as_object (get (codes "packages") (view c.args.lock.now)) ≡ Some members =
    sym c.members_of.ensures ∙ ap (option_map (λ members. members_view members.now.entries)) c.in-Some.is in
    let there : get [] (object members) ≡ Some (view root.member.now) =
    member_of (get [] (object members)) (package_value root)
    (sym c.package_in.ensures ∙ ap (option_map package_value) c.in-Some-package_in.is) in
    let at : option_map package_value c.package_at.result ≡ package_at (object members) (place_in [] c.args.name.now) =
    c.package_at.ensures
    ∙ ap (package_at (object members)) (c.as_str.ensures.value ∙ c.in_ok-place.ensures) in
    IfOk-weaker c.problem_with.result _ _
    (λ problem is. is ∙ whole (view c.args.lock.now) members (view root.member.now)
    (option_map package_value c.package_at.result) c.args.name.now c.args.folder.now are there at)
    c.problem_with.ensures

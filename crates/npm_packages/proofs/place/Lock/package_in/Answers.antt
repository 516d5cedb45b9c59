-- The key that is found is the folder, and its value the member.
use Rattle.std.proofs.Common.{◌≡◌, ◌∙◌, Some, None, ap, is_eq, refl, rules, string_bytes, sym}
use Rattle.serde_json.specs.Find.{get}
use Rattle.serde_json.specs.View.{view}
use Rattle.npm_packages.specs.PackageValue.{packages_data}
use Rattle.npm_packages.proofs.MemberLookups.{found_in}
use Rattle.npm_texts.specs.Lemmas.Keys.{exact}
use Rattle.npm_packages.proofs.place.Lock.package_in.Goals as goal

pub returns : goal.returns
returns c =
    let member : get c.args.folder.now (packages_data c.args.self) ≡ Some (view c.in_ok-folder.member.now) =
    found_in c.args.self.members.now.entries c.args.folder.now (Some c.in_ok-folder.member.now)
    c.in_ok-folder.ensures.value in
    let folder : c.args.folder.now ≡ c.as_str-folder.result.now =
    exact c.args.folder.now (string_bytes c.in_ok-folder.folder.now) (ap is_eq c.in_ok-folder.ensures.same_key)
    ∙ sym c.as_str-folder.ensures.value in
    rw (member, folder) refl

pub returns-in_err-folder : goal.returns-in_err-folder
returns-in_err-folder c =
    let member : get c.args.folder.now (packages_data c.args.self) ≡ None =
    found_in c.args.self.members.now.entries c.args.folder.now None c.in_err-folder.ensures.value in
    search (rules, member)

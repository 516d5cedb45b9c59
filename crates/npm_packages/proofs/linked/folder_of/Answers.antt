-- The link leads to its target, and to no other folder.
use Rattle.std.proofs.Common.{◌≡◌, ◌∙◌, Some, ap, option_map, sym}
use Rattle.serde_json.specs.View.{view}
use Rattle.npm_packages.specs.LinkedFolders.{IsLinkTo}
use Rattle.npm_packages.specs.Packages.{target_of}
use Rattle.npm_packages.specs.PackageValue.{package_value, packages_data}
use Rattle.npm_packages.proofs.linked.folder_of.Goals as goal

pub returns : goal.returns
returns c = λ folder.
    let named : target_of (packages_data c.args.lock) (view c.args.member.now)
    ≡ Some (package_value c.in_ok-target.target) =
    sym c.target_of.ensures ∙ ap (option_map package_value) c.in_ok-target.was in
    let there : IsLinkTo (packages_data c.args.lock) (view c.args.member.now) c.in_ok-target.target.folder.now =
    record {
      is_such = sym c.is_link.ensures ∙ c.if-not-is_link.false;
      target = view c.in_ok-target.target.member.now;
      named = named;
      no_link = sym c.is_link-2.ensures ∙ c.if-is_link.false;
      below = λ nil. cc (rw nil at c.is_empty.ensures, c.if-is_empty.false);
      outside = λ inside. cc (c.is_installed.ensures.1 inside, c.if-is_installed.false);
    } in (
      (λ same. let is : c.in_ok-target.target.folder.now ≡ folder = cc same in rw is at there),
      (λ leads. ap (option_map (λ found. found.folder)) (sym named ∙ leads.named)),
    )

-- The place has a package, or none.
use Rattle.std.proofs.Common.{◌∙◌, ap, option_and_then}
use Rattle.serde_json.specs.Find.{get}
use Rattle.npm_packages.specs.Packages.{Package, version_of}
use Rattle.npm_packages.specs.PackageValue.{packages_data}
use Rattle.npm_resolve.proofs.Locking.{version_there}
use Rattle.npm_resolve.proofs.candidates.locked.version_at.Goals as goal

pub returns-in-Some : goal.returns-in-Some
returns-in-Some c = c.version_of.ensures
    ∙ ap (option_and_then (λ (found : Package). version_of found.member)) (rw c.in-Some.is at c.package_in.ensures)
    ∙ version_there c.args.place.now (get c.args.place.now (packages_data c.args.lock))

pub returns-in-None : goal.returns-in-None
returns-in-None c = ap (option_and_then (λ (found : Package). version_of found.member)) (rw c.in-None.is at c.package_in.ensures)
    ∙ version_there c.args.place.now (get c.args.place.now (packages_data c.args.lock))

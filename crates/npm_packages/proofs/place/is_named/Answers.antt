-- A package has one name.
use Rattle.std.proofs.Common.{◌∙◌, sym}
use Rattle.std.proofs.lemmas.Slice.Eq.{bytes_eq-Decides}
use Rattle.npm_packages.specs.PackageValue.{package_value}
use Rattle.npm_packages.proofs.Named.{same_name}
use Rattle.npm_packages.proofs.place.is_named.Goals as goal

pub returns : goal.returns
returns c = (
  (λ yes. rw ((bytes_eq-Decides c.name_of.result.now c.args.name.now).0 (sym c.eq.ensures ∙ yes)) at c.name_of.ensures),
  (λ named. c.eq.ensures ∙ (bytes_eq-Decides c.name_of.result.now c.args.name.now).1
      (same_name (package_value c.args.found) c.name_of.result.now c.args.name.now c.name_of.ensures named)),
)

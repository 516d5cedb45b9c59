-- What is kept of the packages so far.
use Rattle.std.proofs.Common.{◌≡◌, map, string_bytes, take}
use Rattle.std.specs.Fn.{FnReturnsAt}
use Rattle.std.specs.List.{All}
use Rattle.npm_texts.specs.RegistrySpec.{registry_spec_value}
use Rattle.npm_pick_reports.specs.Mirror.{IsPackage, PackageValue, package_value}
use Rattle.npm_pick_reports.proofs.mirror.mirror_of.Given as goal

abbrev pub invariant-loop-name : goal.invariant-loop-name
invariant-loop-name g l = record {
  named : map (λ (p : PackageValue). p.name) (map package_value l.packages.items)
      ≡ map string_bytes (take l.name-index l.name-items);
  kept : All (IsPackage (FnReturnsAt g.F.Fn l.load) l.options l.all (map registry_spec_value l.requests)
      (map registry_spec_value l.installed)) (map package_value l.packages.items);
}

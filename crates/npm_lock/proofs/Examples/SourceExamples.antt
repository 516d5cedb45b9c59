-- What is found of some packages.
use Rattle.std.proofs.Common.{◌≡◌, ℕ, List, [], ◌∷◌, Bool, true, false, None, Some, codes, filter, map, refl}
use Rattle.std.specs.Path.{rsplit_once}
use Rattle.npm_lock.specs.Origins.{OriginValue}
use Rattle.npm_lock.specs.Sources.{is_found, kinds}
use Rattle.npm_lock.specs.declared.source.SourceKind.{SourceKind}
use Rattle.npm_lock.specs.declared.source.SourceKind.TheVariants.{Insecure, NoIntegrity, OtherHost, OtherPackage, OtherVersion}

-- the kinds that are found of version 1.0.0 of `lodash` at this address, if it comes from this registry
abbrev found : (address : List ℕ) → (has_integrity : Bool) → List SourceKind
found address has_integrity = filter (is_found (codes "https://r" ∷ []) (record {
  folder = codes "node_modules/lodash";
  alias = None;
  version = Some (codes "1.0.0");
  address = Some address;
  has_integrity = has_integrity;
  is_bundled = false;
})) kinds

abbrev rows : List (List ℕ × Bool × List SourceKind)
rows = (codes "https://r/lodash/-/lodash-1.0.0.tgz", true, [])
    -- `integrity` confirms a file, but nothing that a registry has
    ∷ (codes "../lodash-0.9.0.tgz", false, OtherVersion ∷ []) ∷ (codes "../lodash-0.9.0.tgz", true, [])
    ∷ (codes "https://r/lodash/-/lodash-0.9.0.tgz", true, OtherVersion ∷ [])
    ∷ (codes "../evil-1.0.0.tgz", true, OtherPackage ∷ [])
    ∷ (codes "https://r/@s/lodash/-/lodash-1.0.0.tgz", true, OtherPackage ∷ [])
    ∷ (codes "http://r/lodash", false, Insecure ∷ OtherHost ∷ NoIntegrity ∷ [])
    ∷ (codes "https://r.s/lodash", true, OtherHost ∷ []) ∷ []

pub they_are_found : map (λ row. found row.0 row.1) rows ≡ map (λ row. row.2) rows
unfolding rsplit_once
they_are_found = refl

-- The version of a package at a place is that of the member there.
use Rattle.std.proofs.Common.{◌≡◌, List, None, Option, Some, option_and_then, option_map, refl, ℕ}
use Rattle.serde_json.specs.Data.{Data}
use Rattle.npm_packages.specs.Packages.{Package, version_of}

pub version_there : (place : List ℕ) (member : Option Data)
    → option_and_then (λ (found : Package). version_of found.member)
    (option_map (λ (there : Data). record { folder = place; member = there }) member)
    ≡ option_and_then version_of member
version_there place None = refl
version_there place (Some there) = refl

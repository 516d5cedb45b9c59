-- The identifiers of a prerelease and of a build that were read are values of identifier texts.
use native.Mathlib.Omega.{arith}
use Rattle.std.proofs.Common.{List, [], ◌∷◌, ℕ, refl}
use Rattle.std.specs.List.{AllByRecursion}
use Rattle.std.specs.Prelude.{map}
use Rattle.semver_texts.specs.IdentifierText.{IsBuildText, IsIdentifierText, IsPrereleaseText, IsReadIdentifier}
use Rattle.semver_texts.specs.IdentifierText.{identifier_of}
use Rattle.semver_texts.specs.IdentifierValue.{IdentifierValue}

values-read : (parts : List (List ℕ)) → AllByRecursion IsIdentifierText parts
    → AllByRecursion IsReadIdentifier (map identifier_of parts)
values-read [] all = tt
values-read (part ∷ parts) all = ((part, all.0, refl), values-read parts all.1)

pub prerelease-read : (text : List ℕ) (identifiers : List IdentifierValue) → IsPrereleaseText text identifiers
    → AllByRecursion IsReadIdentifier identifiers
prerelease-read text identifiers is = grind (arith, values-read)

pub build-read : (text : List ℕ) (identifiers : List IdentifierValue) → IsBuildText text identifiers
    → AllByRecursion IsReadIdentifier identifiers
build-read text identifiers is = grind (arith, values-read)

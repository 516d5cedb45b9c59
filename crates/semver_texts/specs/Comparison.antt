-- The order of versions as a function: SemVer 2.0.0, sections 10 and 11. `Order` defines the same in the standard's
-- words.
use Rattle.std.specs.Prelude.{List, [], ◌∷◌}
use Rattle.std.specs.Ordering.{nat_cmp, on, then_cmp}
use Rattle.std.specs.Cmp.Lexicographic.{slice_cmp}
use Rattle.std.specs.declared.cmp.Ordering.{Ordering}
use Rattle.std.specs.declared.cmp.Ordering.TheVariants.{Less, Equal, Greater}
use Rattle.semver_texts.specs.IdentifierValue.{IdentifierValue, numeric, alphanumeric}
use Rattle.semver_texts.specs.Version.{VersionValue}

-- a number is less than a text, numbers are ordered by size, texts by their bytes
abbrev pub identifier_cmp : IdentifierValue → IdentifierValue → Ordering
identifier_cmp (numeric m) (numeric n) = nat_cmp m n
identifier_cmp (numeric m) (alphanumeric t) = Less
identifier_cmp (alphanumeric s) (numeric n) = Greater
identifier_cmp (alphanumeric s) (alphanumeric t) = slice_cmp nat_cmp s t

-- identifier by identifier; a release, which has no identifiers, is greater than each prerelease
abbrev pub prerelease_cmp : List IdentifierValue → List IdentifierValue → Ordering
prerelease_cmp [] [] = Equal
prerelease_cmp [] (y ∷ ys) = Greater
prerelease_cmp (x ∷ xs) [] = Less
prerelease_cmp (x ∷ xs) (y ∷ ys) = slice_cmp identifier_cmp (x ∷ xs) (y ∷ ys)

-- major, minor, patch and then the prerelease
abbrev pub version_cmp : VersionValue → VersionValue → Ordering
version_cmp = then_cmp (on (λ (v : VersionValue). v.major) nat_cmp)
    (then_cmp (on (λ (v : VersionValue). v.minor) nat_cmp)
    (then_cmp (on (λ (v : VersionValue). v.patch) nat_cmp) (on (λ (v : VersionValue). v.pre_release) prerelease_cmp)))

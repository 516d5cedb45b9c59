-- The number of an ordering and of a bump, and the hash of a version and of a range.
use Rattle.std.specs.Prelude.{ℕ, ℤ, pos, negsuc, List, fold, Option, Some, None}
use Rattle.std.specs.Hash.FoldHasher as folding
use Rattle.std.specs.declared.cmp.Ordering.{Ordering}
use Rattle.std.specs.declared.cmp.Ordering.TheVariants.{Less, Equal, Greater}
use Rattle.semver_cuts.specs.Ends.{Ends}
use Rattle.semver_sets.specs.RangeHash.{range_writes}
use Rattle.semver_texts.specs.Hash.{version_writes}
use Rattle.semver_texts.specs.Version.{VersionValue}
use Rattle.npm_semver.specs.declared.bump.Bump.{Bump}
use Rattle.npm_semver.specs.declared.bump.Bump.TheVariants.{Major, PreMajor, Minor, PreMinor, Patch}
use Rattle.npm_semver.specs.declared.bump.Bump.TheVariants.{PrePatch}
use Rattle.npm_semver.specs.declared.bump.Bump.TheVariants.{PreRelease, Pre}

-- -1, 0 or 1
abbrev pub sign_of : Ordering → ℤ
sign_of Less = negsuc 0
sign_of Equal = pos 0
sign_of Greater = pos 1

-- the code of a bump, from 1 in the order of `Bump`
abbrev pub code_of_bump : Bump → ℕ
code_of_bump Major = 1
code_of_bump PreMajor = 2
code_of_bump Minor = 3
code_of_bump PreMinor = 4
code_of_bump Patch = 5
code_of_bump PrePatch = 6
code_of_bump PreRelease = 7
code_of_bump Pre = 8

-- the code of the bump between two versions, and 0 where there is none
abbrev pub code_of_difference : Option Bump → ℕ
code_of_difference None = 0
code_of_difference (Some bump) = code_of_bump bump

-- the hash by std's `FoldHasher`, with its fixed seed, of the triple and prerelease that a version feeds a hasher
abbrev pub version_hash : VersionValue → ℕ
version_hash v = folding.finish (fold folding.write folding.initial (version_writes v))

-- the hash by std's `FoldHasher`, with its fixed seed, of the sets that a range feeds a hasher, by their cuts
abbrev pub range_hash : List (Ends VersionValue) → ℕ
range_hash sets = folding.finish (fold folding.write folding.initial (range_writes sets))

-- Worked examples: the comparators that texts write. Each row is computed over the definitions.
use Rattle.std.proofs.Common.{ℕ, List, [], ◌∷◌, refl, codes}
use Rattle.semver_cuts.specs.declared.cut.Cut.TheVariants.{Before, After}
use Rattle.semver_sets.specs.Comparator.{Comparator, above, at_least, at_most, below, exactly, from_up_to, with_major}
use Rattle.semver_sets.specs.Comparator.{with_minor}
use Rattle.semver_texts.specs.IdentifierValue.{alphanumeric}
use Rattle.semver_texts.specs.Version.{VersionValue, least_of, release}
use Rattle.semver_sets.proofs.Examples.RangeComputing.{AreComputed, AreWritten, all-written, alternatives_in}

-- `1.2.3-a`
abbrev pub prerelease : ℕ → ℕ → ℕ → List ℕ → VersionValue
prerelease m n p text = record (release m n p) { pre_release = alphanumeric text ∷ [] }

-- extras after an x, hyphens that are none, and words that are ignored
abbrev words : List (List ℕ × List Comparator)
words =
    (codes ">=1.2.x-b", at_least (prerelease 1 2 0 (codes "b")) ∷ [])
    ∷ (codes ">1.2.x-b", at_least (release 1 3 0) ∷ [])
    ∷ (codes "<=1.2", at_most (least_of 1 2 0) ∷ [])
    ∷ (codes "=1.2.3-a+b", exactly (prerelease 1 2 3 (codes "a")) ∷ [])
    ∷ (codes "~1.2.x-b", with_minor 1 2 ∷ [])
    ∷ (codes "~>1.2.x-b", from_up_to (prerelease 1 2 0 (codes "b")) (least_of 1 3 0) ∷ [])
    ∷ (codes "^0.0.3-a+b", from_up_to (prerelease 0 0 3 (codes "a")) (least_of 0 0 4) ∷ [])
    ∷ (codes "^ 1.2 ^ 1", from_up_to (release 1 2 0) (least_of 2 0 0) ∷ with_major 1 ∷ [])
    ∷ (codes "1 - 3.x.5", record { lower = Before (release 1 0 0); upper = After (release 3 0 5) } ∷ [])
    ∷ (codes " - 10", below (least_of 11 0 0) ∷ [])
    ∷ (codes "- 10", with_major 10 ∷ [])
    ∷ (codes "2 - 1 1.2.3", from_up_to (release 2 0 0) (least_of 2 0 0) ∷ exactly (release 1 2 3) ∷ [])
    ∷ (codes "1 - >=1.5", with_major 1 ∷ at_least (release 1 5 0) ∷ [])
    ∷ (codes "1 - 2.3.4.5", with_major 1 ∷ [])
    ∷ (codes "> =1", with_major 1 ∷ [])
    ∷ (codes "=* >x", above (release 0 0 0) ∷ [])
    ∷ []

words-computed : AreComputed words
unfolding alternatives_in
words-computed = refl

pub words-written : AreWritten words
words-written = all-written words words-computed

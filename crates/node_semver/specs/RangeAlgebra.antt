-- The intersection of two ranges, and the part of one outside the other, in terms of versions.
use Rattle.std.specs.Prelude.{List, [], ◌∷◌, Option, Some, None}
use Rattle.semver_cuts.specs.Ends.{Ends}
use Rattle.semver_sets.specs.Meaning.{Admit, AnyByRecursion}
use Rattle.semver_texts.specs.Version.{VersionValue}

-- the sets of the resulting range, or no sets if the result is `None`
abbrev pub sets_of_answer : Option (List (Ends VersionValue)) → List (Ends VersionValue)
sets_of_answer None = []
sets_of_answer (Some sets) = sets

-- a set of one range and a set of the other both contain the version, and if it is a prerelease, an end of one of these
-- two sets opens its triple
abbrev pub PairAdmits : List (Ends VersionValue) → List (Ends VersionValue) → VersionValue → Type 0
PairAdmits ones others v =
    AnyByRecursion (λ one. AnyByRecursion (λ other. Admit (one ∷ other ∷ []) v) others) ones

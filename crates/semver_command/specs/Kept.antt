-- Which of the versions that are left are written, and in which order.
use Rattle.std.specs.Prelude.{◌≡◌, ◌≢◌, List, [], ◌∷◌, ◌++◌, Bool, true, false, IsPermutation, IsSorted, MatchOption, Option, reverse}
use Rattle.std.specs.Bool.{MatchBool}
use Rattle.std.specs.List.{AllByRecursion}
use Rattle.node_semver.specs.Versions.{IsBelow, VersionValue, version_cmp}
use Rattle.semver_command.specs.declared.asked.Listing.{Listing}
use Rattle.semver_command.specs.declared.asked.Listing.TheVariants as Listings
use Rattle.semver_command.specs.declared.asked.Options.{Options}
use Rattle.semver_command.specs.declared.ending.Ending.{Ending}
use Rattle.semver_command.specs.declared.ending.Ending.TheVariants as Endings
use Rattle.semver_command.specs.declared.kept.Kept.{Kept}
use Rattle.semver_command.specs.declared.kept.Kept.TheVariants as Kepts

-- the first version has lower precedence, or with `is_least` unset higher precedence
abbrev pub IsBetter : (is_least : Bool) → VersionValue → VersionValue → Type 0
IsBetter true v w = IsBelow v w
IsBetter false v w = IsBelow w v

-- the version is one of these, and none of them is better: the least of them, or the greatest
pub record IsBestOf (is_least : Bool) (versions : List VersionValue) (best : VersionValue) : Type 0 where
  pub before : List VersionValue
  pub after : List VersionValue
  pub parts : versions ≡ before ++ (best ∷ after)
  pub none_better : AllByRecursion (λ v. ¬ IsBetter is_least v best) versions

-- the best of the versions, or none if there is none
abbrev pub IsBest : (is_least : Bool) → List VersionValue → Option VersionValue → Type 0
IsBest is_least versions best = MatchOption best (versions ≡ []) (IsBestOf is_least versions)

-- What is kept of the versions that are left so far. Of those that are written as they come it is only known whether
-- there was one.
abbrev pub IsKept : Listing → List VersionValue → Kept → Type 0
IsKept listing versions (Kepts.All list) = (listing ≡ Listings.Ordered) × (list.items ≡ versions)
IsKept listing versions (Kepts.Least best) = (listing ≡ Listings.Least) × IsBest true versions best
IsKept listing versions (Kepts.Greatest best) = (listing ≡ Listings.Greatest) × IsBest false versions best
IsKept listing versions (Kepts.Written is_first) = (listing ≡ Listings.Unsorted)
    × MatchBool is_first (versions ≡ []) (versions ≢ [])

-- ---- after the last version

abbrev pub in_direction : {V : Type 0} → (is_reverse : Bool) → List V → List V
in_direction false versions = versions
in_direction true versions = reverse versions

-- what is written is all of the versions, in ascending order of precedence or in descending order
pub record AreInOrder (is_reverse : Bool) (versions written : List VersionValue) : Type 0 where
  pub ascending : List VersionValue
  pub same : IsPermutation versions ascending
  pub sorted : IsSorted version_cmp ascending
  pub direction : written ≡ in_direction is_reverse ascending

-- What is written at the end. A least version is written alone; of equal ones the prints are the same, since they have
-- no builds.
abbrev pub IsListed : Options → List VersionValue → Kept → Type 0
IsListed options versions (Kepts.All list) =
    (options.listing ≡ Listings.Ordered) × AreInOrder options.reverse versions list.items
IsListed options versions (Kepts.Least best) = IsKept options.listing versions (Kepts.Least best)
IsListed options versions (Kepts.Greatest best) = IsKept options.listing versions (Kepts.Greatest best)
IsListed options versions (Kepts.Written is_first) = IsKept options.listing versions (Kepts.Written is_first)

-- something is written, or nothing is left
abbrev pub ending_of : List VersionValue → Ending
ending_of [] = Endings.Nothing
ending_of (v ∷ others) = Endings.Written

-- What the private functions compute that look for the least version of a range.
use Rattle.std.specs.Prelude.{◌≡◌, ◌⊎◌, ℕ, Bool, true, false, IsTrue, List, [], ◌∷◌, ◌++◌, Option, Some, None}
use Rattle.std.specs.Prelude.{if◌then◌else◌}
use Rattle.std.specs.declared.cmp.Ordering.TheVariants.{Less}
use Rattle.semver_cuts.specs.declared.cut.Cut.{Cut}
use Rattle.semver_cuts.specs.declared.cut.Cut.TheVariants.{Before}
use Rattle.semver_cuts.specs.Ends.{Ends, IsCutBelow}
use Rattle.semver_texts.specs.Comparison.{version_cmp}
use Rattle.semver_texts.specs.IdentifierValue.{IdentifierValue, numeric}
use Rattle.semver_sets.specs.Meaning.{AnyByRecursion, HasOpenEnd, IsInside, Opens, SetAdmits}
use Rattle.semver_texts.specs.Version.{VersionValue, least_of, release}
use Rattle.node_semver.specs.Least.{HasBuildOf, IsLeastOf, IsNoneOf, build_at}

-- the identifiers, followed by a 0 if `zero` is true
abbrev pub with_zeros : List IdentifierValue → Bool → List IdentifierValue
with_zeros identifiers zero = identifiers ++ (if zero then numeric 0 ∷ [] else [])

-- ---- prereleases included, or not

-- an end of the set opens the triple of the version, or none has to
abbrev pub IsOpenIn : Bool → Ends VersionValue → VersionValue → Type 0
IsOpenIn included set v = IsTrue included ⊎ HasOpenEnd v set

-- with prereleases included, the version lies inside the set; else the set admits it
abbrev pub IsIn : Bool → Ends VersionValue → VersionValue → Type 0
IsIn true = λ (set : Ends VersionValue) (v : VersionValue). IsInside v set
IsIn false = SetAdmits

-- with prereleases included, a range contains the version; else it admits the version
abbrev pub IsInRange : Bool → List (Ends VersionValue) → VersionValue → Type 0
IsInRange included sets v = AnyByRecursion (λ (set : Ends VersionValue). IsIn included set v) sets

-- ---- the least version

-- the least version in the set, with the build of its lower end
pub record IsLeastInSet (included : Bool) (set : Ends VersionValue) (least : VersionValue) : Type 0 where
  pub admits : IsIn included set least
  pub none_below : (v : VersionValue) → IsIn included set v → ¬ (version_cmp v least ≡ Less)
  pub build : least.build ≡ build_at set.lower

-- that version, or none if there is none in the set
abbrev pub IsLeastOfSet : Bool → Ends VersionValue → Option VersionValue → Type 0
IsLeastOfSet included set None = (v : VersionValue) → ¬ IsIn included set v
IsLeastOfSet included set (Some least) = IsLeastInSet included set least

-- the least version in the list of sets, or none if there is none
abbrev pub IsLeastOfSets : Bool → List (Ends VersionValue) → Option VersionValue → Type 0
IsLeastOfSets included sets None = IsNoneOf (IsInRange included sets)
IsLeastOfSets included sets (Some least) =
    IsLeastOf (IsInRange included sets) least × HasBuildOf (IsIn included) sets least

-- the version if it is below an upper end, or none
abbrev pub IsInsideOrNone : Cut VersionValue → VersionValue → Option VersionValue → Type 0
IsInsideOrNone upper v found =
    (IsCutBelow version_cmp (Before v) upper × (found ≡ Some v)) ⊎
    ((¬ IsCutBelow version_cmp (Before v) upper) × (found ≡ None))

-- the least version of a triple if prereleases are included or an upper end opens it, else the release of the triple
abbrev pub IsLeastOfTriple : Bool → Cut VersionValue → ℕ → ℕ → ℕ → List IdentifierValue → VersionValue → Type 0
IsLeastOfTriple included upper m n p build v =
    ((IsTrue included ⊎ Opens upper (release m n p)) × (v ≡ record (least_of m n p) { build = build }))
    ⊎ ((¬ (IsTrue included ⊎ Opens upper (release m n p))) × (v ≡ record (release m n p) { build = build }))

-- the later of two versions if it is less than the earlier, else the earlier
abbrev pub IsLesser : Option VersionValue → Option VersionValue → Option VersionValue → Type 0
IsLesser None later lesser = lesser ≡ later
IsLesser (Some e) None lesser = lesser ≡ Some e
IsLesser (Some e) (Some l) lesser =
    ((version_cmp l e ≡ Less) × (lesser ≡ Some l)) ⊎ ((¬ (version_cmp l e ≡ Less)) × (lesser ≡ Some e))

-- the lesser of the least version of a set and the earlier version
abbrev pub IsKept : Bool → Ends VersionValue → Option VersionValue → Option VersionValue → Type 0
IsKept included set earlier lesser =
    (later : Option VersionValue) × (IsLeastOfSet included set later × IsLesser earlier later lesser)

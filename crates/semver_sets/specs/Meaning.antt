-- What a written range means: npm's "Ranges" and "Prerelease Tags".
--
-- `>=1.2.3-rc.4 <2.0.0`, read with what follows:
--   Written: one alternative of two comparators, `at_least` 1.2.3-rc.4 and `below` 2.0.0.
--   Not refused: it has comparators, and the cut before 1.2.3-rc.4 lies in both of them.
--   1.9.0 is admitted: the cut before it lies in both, and it is no prerelease.
--   2.0.0 is not admitted: the cut before it is not below the upper end of the second.
--   1.2.3-rc.5 is admitted: it lies inside both, and the lower end of the first is a prerelease of its triple.
--   1.2.4-rc.6 is not admitted: it lies inside both, and no end is a prerelease of 1.2.4.
use Rattle.std.specs.Prelude.{◌≢◌, ◌⊎◌, ℕ, List, []}
use Rattle.std.specs.List.{AllByRecursion}
use Rattle.semver_cuts.specs.declared.cut.Cut.{Cut}
use Rattle.semver_cuts.specs.declared.cut.Cut.TheVariants.{Start, Before, After, End}
use Rattle.semver_cuts.specs.SpanLists.{HasCutInEvery}
use Rattle.semver_cuts.specs.Ends.{Ends, IsInSpan}
pub use Rattle.semver_cuts.specs.Sharing.{AnyByRecursion}
use Rattle.semver_sets.specs.Comparator.{Comparator}
use Rattle.semver_texts.specs.Comparison.{version_cmp}
use Rattle.semver_sets.specs.Division.{IsWritten}
use Rattle.semver_texts.specs.Version.{HasSameTriple, IsPrerelease, VersionValue}

-- a version lies inside a comparator if the cut just before the version does
abbrev pub IsInside : VersionValue → Comparator → Type 0
IsInside v comparator = IsInSpan version_cmp comparator (Before v)

-- the cut is just before or just after a prerelease with the version's triple: `>=1.2.3-rc.4` opens 1.2.3
abbrev pub Opens : Cut VersionValue → VersionValue → Type 0
Opens Start v = ⊥
Opens (Before p) v = IsPrerelease p × HasSameTriple p v
Opens (After p) v = IsPrerelease p × HasSameTriple p v
Opens End v = ⊥

-- an end of the comparator opens the version's triple
abbrev pub HasOpenEnd : VersionValue → Comparator → Type 0
HasOpenEnd v comparator = Opens comparator.lower v ⊎ Opens comparator.upper v

-- the version lies inside each comparator, and if it is a prerelease, an end of one of them opens its triple
pub record Admit (comparators : List Comparator) (v : VersionValue) : Type 0 where
  pub inside : AllByRecursion (IsInside v) comparators
  pub opened : IsPrerelease v → AnyByRecursion (HasOpenEnd v) comparators

-- there is a comparator, and some cut lies in all of them
pub record GiveSet (comparators : List Comparator) : Type 0 where
  pub some : comparators ≢ []
  pub common : HasCutInEvery version_cmp comparators

-- no alternative of the text has a comparator and a cut that lies in all its comparators
pub record IsRefused (text : List ℕ) : Type 0 where
  pub alternatives : List (List Comparator)
  pub written : IsWritten text alternatives
  pub none : AllByRecursion (λ comparators. ¬ GiveSet comparators) alternatives

-- in some alternative that has a comparator, the comparators admit the version
pub record TextAdmits (text : List ℕ) (v : VersionValue) : Type 0 where
  pub alternatives : List (List Comparator)
  pub written : IsWritten text alternatives
  pub admitted : AnyByRecursion (λ comparators. (comparators ≢ []) × Admit comparators v) alternatives

-- the version lies inside the set, and if it is a prerelease, one of the set's two ends opens its triple
pub record SetAdmits (set : Ends VersionValue) (v : VersionValue) : Type 0 where
  pub inside : IsInside v set
  pub opened : IsPrerelease v → HasOpenEnd v set

-- a range, as the list of its sets, admits a version if one of the sets does
abbrev pub RangeAdmits : List (Ends VersionValue) → VersionValue → Type 0
RangeAdmits sets v = AnyByRecursion (λ set. SetAdmits set v) sets

-- a range contains a version if the version lies inside one of the sets. A prerelease needs no end that opens its
-- triple: `>=1.2.3-rc.4 <2.0.0` contains 1.2.4-rc.6
abbrev pub RangeContains : List (Ends VersionValue) → VersionValue → Type 0
RangeContains sets v = AnyByRecursion (λ set. IsInside v set) sets

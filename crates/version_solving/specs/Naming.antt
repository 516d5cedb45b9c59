-- Which demands and packages stand for asks: names and ranges by numbers.

use Rattle.std.specs.Prelude.{◌≡◌, ◌+◌, ℕ, List, [], ◌∷◌, Option, Some, None, bytes_eq, if◌then◌else◌, length, slice_get, unwrap_or}
use Rattle.std.specs.List.{AllZip}
use Rattle.version_solving.specs.declared.demand.Demand.{Demand}
use Rattle.version_solving.specs.declared.documents.Candidate.{Candidate}
use Rattle.version_solving.specs.declared.documents.Package.{Package}
use Rattle.version_solving.specs.declared.ask.Ask.{Ask}
use Rattle.version_solving.specs.declared.ask.Asker.{Asker}
use Rattle.version_solving.specs.declared.ask.Listed.{Listed}
use Rattle.version_solving.specs.declared.problem.Numbered.{Numbered}
use Rattle.version_solving.specs.declared.wanted.Wanted.{Wanted}

-- ---- the numbers of names

-- The first place of a name in a list whose first place has this number.
abbrev pub place_from : ℕ → List Listed → (name : List ℕ) → Option ℕ
place_from place [] name = None
place_from place (one ∷ others) name = if bytes_eq one.name.now name then Some place else place_from (place + 1) others name

-- The number of a name: its place in the list, or the length of the list if it is not there.
abbrev pub number_of : List Listed → (name : List ℕ) → ℕ
number_of listed name = unwrap_or (place_from 0 listed name) (length listed)

-- ---- demands

-- The range with this number is this text, for this name.
pub record IsRangeAt (ranges : List Wanted) (number name : ℕ) (spec : List ℕ) : Type 0 where
  pub wanted : Wanted
  pub there : slice_get ranges number ≡ Some wanted
  pub of_name : wanted.name ≡ name
  pub of_spec : wanted.spec.now ≡ spec

-- The demand stands for the ask.
pub record IsDemandOf (listed : List Listed) (ranges : List Wanted) (ask : Ask) (demand : Demand) : Type 0 where
  pub name : demand.name ≡ number_of listed ask.name.now
  pub range : IsRangeAt ranges demand.range demand.name ask.spec.now
  pub needed : demand.needed ≡ ask.needed

abbrev pub AreDemandsOf : List Listed → List Wanted → List Ask → List Demand → Type 0
AreDemandsOf listed ranges = AllZip (IsDemandOf listed ranges)

-- ---- packages

-- The candidate makes the demands that stand for what is asked.
abbrev pub IsCandidateOf : List Listed → List Wanted → Asker → Candidate → Type 0
IsCandidateOf listed ranges asker candidate = AreDemandsOf listed ranges asker.asks.items candidate.demands.items

abbrev pub AreCandidatesOf : List Listed → List Wanted → List Asker → List Candidate → Type 0
AreCandidatesOf listed ranges = AllZip (IsCandidateOf listed ranges)

-- The package has these candidates, in their order.
abbrev pub IsPackageOf : List Listed → List Wanted → Listed → Package → Type 0
IsPackageOf listed ranges one made = AreCandidatesOf listed ranges one.candidates.items made.candidates.items

abbrev pub ArePackagesOf : List Listed → List Wanted → List Listed → List Package → Type 0
ArePackagesOf listed ranges = AllZip (IsPackageOf listed ranges)

-- ---- all of it

-- The root's demands stand for what it asks, and there is a package for each name of the list.
pub record IsNumbered (root : List Ask) (listed : List Listed) (numbered : Numbered) : Type 0 where
  pub root_demands : AreDemandsOf listed numbered.ranges.items root numbered.root.items
  pub packages : ArePackagesOf listed numbered.ranges.items listed numbered.packages.items

-- ---- one of several asks

-- The demand at the place of the ask is this one.
pub record IsAskOf (asks : List Ask) (demands : List Demand) (demand : Demand) (ask : Ask) : Type 0 where
  pub place : ℕ
  pub asked : slice_get asks place ≡ Some ask
  pub demanded : slice_get demands place ≡ Some demand

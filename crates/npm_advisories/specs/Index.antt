-- The advisories that were read, by the names of packages.
use Rattle.std.specs.Prelude.{◌≡◌, ◌↔◌, ℕ, List, [], Bool, true, Option, IfSome, is_some}
use Rattle.std.specs.BTreeMap.{get_by}
use Rattle.std.specs.Cmp.Lexicographic.{slice_cmp}
use Rattle.std.specs.List.{AllZip}
use Rattle.std.specs.Option.{option_map_or}
use Rattle.std.specs.Ordering.{nat_cmp}
use Rattle.semver_cuts.specs.Ends.{Ends}
use Rattle.node_semver.specs.RangeAlgebra.{sets_of_answer}
use Rattle.node_semver.specs.Ranges.{IsRangeValue, RangeContains}
use Rattle.node_semver.specs.Versions.{VersionValue}
use Rattle.npm_advisories.specs.Advisories.{AdvisoryValue, Affected, Affects, about_name, about_value}
use Rattle.npm_advisories.specs.declared.advisory.Advisory.{Advisory}
use Rattle.npm_advisories.specs.declared.index.Index.{Index}
use Rattle.npm_advisories.specs.declared.wanted.Names.{Names}

-- the range contains the versions that are affected; there is none if no version is
pub record IsRangeOf (affected : Affected) (range : Option (List (Ends VersionValue))) : Type 0 where
  pub means : (v : VersionValue) → RangeContains (sets_of_answer range) v ↔ Affects affected v
  pub holds : IfSome range IsRangeValue

-- the advisory was read
pub record IsAdvisory (value : AdvisoryValue) (advisory : Advisory) : Type 0 where
  pub name : advisory.name.now ≡ value.name
  pub about : about_value advisory.about ≡ value.about
  pub range : IsRangeOf value.affected advisory.range

-- the name is one of these
abbrev pub has_name : Names → (name : List ℕ) → Bool
has_name names name = is_some (get_by (λ k. slice_cmp nat_cmp name k.now) names.set)

-- the advisories that the index has at a name
abbrev pub at_name : Index → (name : List ℕ) → List Advisory
at_name index name = option_map_or (λ list. list.items) (get_by (λ k. slice_cmp nat_cmp name k.now) index.by_name) []

-- the index has those of these advisories that are about wanted packages, and no others about these
abbrev pub IsIndex : (is_wanted : List ℕ → Bool) → List AdvisoryValue → Index → Type 0
IsIndex is_wanted values index = (name : List ℕ) → is_wanted name ≡ true
    → AllZip IsAdvisory (about_name name values) (at_name index name)

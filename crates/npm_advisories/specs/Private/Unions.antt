-- All versions that advisories are about, by the names of packages.
use Rattle.std.specs.Prelude.{◌≡◌, ℕ, List, [], Option, map}
use Rattle.std.specs.BTreeMap.{get_by}
use Rattle.std.specs.Cmp.Lexicographic.{slice_cmp}
use Rattle.std.specs.Option.{MatchOption}
use Rattle.std.specs.Ordering.{nat_cmp}
use Rattle.npm_advisories.specs.Private.Covering.{AreCovered}
use Rattle.npm_advisories.specs.Private.Halves.{AreHalves}
use Rattle.npm_advisories.specs.Advisories.{about_value}
use Rattle.npm_advisories.specs.Hits.{AreKept}
use Rattle.npm_advisories.specs.Index.{at_name}
use Rattle.npm_advisories.specs.Private.Spans.{IsInRange, IsOfEach}
use Rattle.npm_advisories.specs.declared.advisory.Advisory.{Advisory}
use Rattle.npm_advisories.specs.declared.index.Index.{Index}
use Rattle.npm_advisories.specs.declared.unions.Union.{Union}
use Rattle.npm_advisories.specs.declared.unions.Unions.{Unions}

-- these are the versions that the advisories are about, the releases among them, and the advisories about each release
pub record IsUnion (advisories : List Advisory) (union : Union) : Type 0 where
  pub halves : AreHalves advisories union.halves
  pub covered : AreCovered union.covered.items (IsInRange advisories)
  pub each : AreKept IsOfEach (λ advisory. about_value advisory.about) advisories (map about_value union.each.items)

-- the union at a name
abbrev pub union_at : Unions → (name : List ℕ) → Option Union
union_at unions name = get_by (λ k. slice_cmp nat_cmp name k.now) unions.by_name

-- the union at each name, if there is one, is that of the advisories of the index about that package
abbrev pub AreUnions : Index → Unions → Type 0
AreUnions index unions = (name : List ℕ) → MatchOption (union_at unions name) (Unit {0}) (IsUnion (at_name index name))

-- there is a union at the name if the index has advisories about that package
abbrev pub IsKnown : Index → Unions → (name : List ℕ) → Type 0
IsKnown index unions name = MatchOption (union_at unions name) (at_name index name ≡ []) (IsUnion (at_name index name))

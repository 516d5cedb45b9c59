-- What the exports return, by the clauses of the calls of `node_semver` that they make.
use Rattle.std.specs.Prelude.{◌≡◌, ◌⊎◌, ◌↔◌, ◌++◌, ℕ, Bool, List, []}
use Rattle.std.specs.Prelude.{Option, Some, None, IfErr, IfNone, IfOk, IfSome, IsNone, IsOk, IsSome, Result}
use Rattle.std.specs.Prelude.{MatchResult}
use Rattle.node_semver_c.specs.declared.status.Fault.{Fault}
use Rattle.node_semver_c.specs.declared.status.TheConstants.{OK, NONE, OUT_OF_MEMORY}
use Rattle.node_semver_c.specs.Status.{IsKept, IsRefusalReported}
use Rattle.npm_sets.specs.declared.options.NpmOptions.{NpmOptions}
use Rattle.semver_cuts.specs.declared.cut.Cut.{Cut}
use Rattle.semver_cuts.specs.SpanLists.{IsInSome}
use Rattle.semver_cuts.specs.CommonSpans.{common_spans}
use Rattle.semver_cuts.specs.Ends.{Ends}
use Rattle.semver_cuts.specs.Difference.{AreDifference}
use Rattle.semver_cuts.specs.Sharing.{ShareCut}
use Rattle.semver_keys.specs.VersionOfKey.{IsNoKey, IsVersionOfKey}
use Rattle.semver_texts.specs.Comparison.{version_cmp}
use Rattle.semver_sets.specs.Meaning.{RangeAdmits}
use Rattle.semver_sets.specs.Merging.{AreSetsOfText}
use Rattle.semver_sets.specs.RangeSets.{IsRangeValue}
use Rattle.semver_sets.specs.Union.{AreJoinable, joined_text}
use Rattle.npm_semver.specs.Coerce.{IsCoerced}
use Rattle.npm_semver.specs.CoerceWithPrerelease.{IsCoercedWithPrerelease}
use Rattle.semver_texts.specs.Version.{IsPrerelease, VersionValue}
use Rattle.semver_versions.specs.declared.error.SemverError.{SemverError}
use Rattle.semver_versions.specs.Error.{IsOutOfMemory, IsReadAs, refusal_of}
use Rattle.npm_semver.specs.StrictVersionText.{IsStrictFaultOf, IsStrictVersionText}
use Rattle.node_semver.specs.Least.{AdmitNoneInCommon, AdmitsNone, AdmitsNoneBeyond, HasBuildOfFirst, IsAdmittedBy}
use Rattle.node_semver.specs.Least.{IsLeastAdmitted, IsLeastBeyond, IsLeastCommon}
use Rattle.node_semver.specs.Least.{BothContain, ContainsBeyond, ContainsNone, HasBuildOfFirstAround, IsContainedIn}
use Rattle.node_semver.specs.Least.{IsLeastContained, IsLeastOf, IsNoneOf}
use Rattle.node_semver.specs.RangeAlgebra.{PairAdmits, sets_of_answer}

-- ---- texts

-- the result of parsing is passed on: its value is in the handle, or its error in status and fault and the handle is
-- empty
abbrev pub IsReported : {X : Type 0} → Result X SemverError → ℕ → Option X → Fault → Type 0
IsReported answer status held fault =
    MatchResult answer (λ x. IsKept x status held) (λ e. IsRefusalReported (refusal_of e) status fault × (held ≡ None))

-- a result that the call may return is passed on
pub record IsSomeReported {X : Type 0} (Answers : Result X SemverError → Type 0) (status : ℕ) (held : Option X)
    (fault : Fault) : Type 0 where
  pub answer : Result X SemverError
  pub promised : Answers answer
  pub reported : IsReported answer status held fault

-- the result of `npm_semver::parse_version` for a text
pub record IsStrictAnswer (text : List ℕ) (answer : Result VersionValue SemverError) : Type 0 where
  pub found : IfOk answer (λ v. IsStrictVersionText text v)
  pub only : (v : VersionValue) → IsStrictVersionText text v → IsReadAs v answer
  pub fault : IfErr answer (λ e. IsOutOfMemory e ⊎ IsStrictFaultOf text e)
  pub plain : (v : VersionValue) → IsStrictVersionText text v → v.pre_release ≡ [] → v.build ≡ [] → IsOk answer

-- npm's options, by their names
abbrev pub options_of : (loose include_prerelease : Bool) → NpmOptions
options_of loose include_prerelease = record { loose = loose; include_prerelease = include_prerelease }

-- ---- results that always exist

-- the handle has a value that the call may return, or an allocation failed and the handle is empty
pub data IsMade {X : Type 0} (Is : X → Type 0) (status : ℕ) (held : Option X) : Type 0 where
  made : (x : X) → Is x → status ≡ OK → held ≡ Some x → IsMade Is status held
  no_memory : status ≡ OUT_OF_MEMORY → held ≡ None → IsMade Is status held

-- the result of `Range::union`
pub record IsUnion (one other union : List (Ends VersionValue)) : Type 0 where
  pub sets : union ≡ one ++ other
  pub cuts : (cut : Cut VersionValue) → IsInSome version_cmp union cut
      ↔ (IsInSome version_cmp one cut ⊎ IsInSome version_cmp other cut)
  pub admitted : (v : VersionValue) → RangeAdmits union v ↔ (RangeAdmits one v ⊎ RangeAdmits other v)
  pub text : (first second : List ℕ) → AreJoinable first second → AreSetsOfText first one
      → AreSetsOfText second other → AreSetsOfText (joined_text first second) union
  pub holds : IsRangeValue union

-- ---- results that may be none

-- the status of a call that found something, or nothing
abbrev pub status_found : {X : Type 0} → Option X → ℕ
status_found None = NONE
status_found (Some x) = OK

-- the handle has the result of the call, or an allocation failed and the handle is empty
abbrev pub IsFound : {X : Type 0} → (Option X → Type 0) → ℕ → Option X → Type 0
IsFound Answers status held =
    (Answers held × (status ≡ status_found held)) ⊎ ((status ≡ OUT_OF_MEMORY) × (held ≡ None))

-- the result of `Range::intersect`
pub record IsIntersection (one other : List (Ends VersionValue)) (answer : Option (List (Ends VersionValue)))
    : Type 0 where
  pub sets : sets_of_answer answer ≡ common_spans version_cmp one other
  pub cuts : (cut : Cut VersionValue) → IsInSome version_cmp (sets_of_answer answer) cut
      ↔ (IsInSome version_cmp one cut × IsInSome version_cmp other cut)
  pub none : IsNone answer ↔ ¬ ShareCut version_cmp one other
  pub some : IsSome answer ↔ ShareCut version_cmp one other
  pub releases : (v : VersionValue) → ¬ IsPrerelease v
      → RangeAdmits (sets_of_answer answer) v ↔ (RangeAdmits one v × RangeAdmits other v)
  pub prereleases : (v : VersionValue) → IsPrerelease v → RangeAdmits (sets_of_answer answer) v ↔ PairAdmits one other v
  pub disjoint : (spans : List (Ends VersionValue)) → AreDifference version_cmp one other spans
      → (cut : Cut VersionValue) → ¬ (IsInSome version_cmp (sets_of_answer answer) cut × IsInSome version_cmp spans cut)
  pub together : (spans : List (Ends VersionValue)) → AreDifference version_cmp one other spans
      → (cut : Cut VersionValue) → IsInSome version_cmp one cut
      ↔ (IsInSome version_cmp (sets_of_answer answer) cut ⊎ IsInSome version_cmp spans cut)
  pub holds : IfSome answer IsRangeValue

-- the result of `Range::difference`
pub record IsDifference (one other : List (Ends VersionValue)) (answer : Option (List (Ends VersionValue)))
    : Type 0 where
  pub sets : AreDifference version_cmp one other (sets_of_answer answer)
  pub cuts : (cut : Cut VersionValue) → IsInSome version_cmp (sets_of_answer answer) cut
      ↔ (IsInSome version_cmp one cut × ¬ IsInSome version_cmp other cut)
  pub none : IsNone answer
      ↔ ((cut : Cut VersionValue) → ¬ (IsInSome version_cmp one cut × ¬ IsInSome version_cmp other cut))
  pub releases : (v : VersionValue) → ¬ IsPrerelease v
      → RangeAdmits (sets_of_answer answer) v ↔ (RangeAdmits one v × ¬ RangeAdmits other v)
  pub disjoint : (cut : Cut VersionValue) → ¬ (IsInSome version_cmp (common_spans version_cmp one other) cut
      × IsInSome version_cmp (sets_of_answer answer) cut)
  pub together : (cut : Cut VersionValue) → IsInSome version_cmp one cut
      ↔ (IsInSome version_cmp (common_spans version_cmp one other) cut
      ⊎ IsInSome version_cmp (sets_of_answer answer) cut)
  pub holds : IfSome answer IsRangeValue

-- the result of `Range::min_version`
pub record IsMinimum (sets : List (Ends VersionValue)) (answer : Option VersionValue) : Type 0 where
  pub least : IfSome answer (IsLeastAdmitted sets)
  pub none : IsNone answer ↔ AdmitsNone sets
  pub build : IfSome answer (HasBuildOfFirst sets)

-- the result of `Range::least_beyond`
pub record IsBeyond (one other : List (Ends VersionValue)) (answer : Option VersionValue) : Type 0 where
  pub least : IfSome answer (IsLeastBeyond one other)
  pub none : IsNone answer ↔ AdmitsNoneBeyond one other
  pub admitted : IsNone answer ↔ IsAdmittedBy one other
  pub build : IfSome answer (λ v. v.build ≡ [])

-- the result of `Range::least_common`
pub record IsCommonLeast (one other : List (Ends VersionValue)) (answer : Option VersionValue) : Type 0 where
  pub least : IfSome answer (IsLeastCommon one other)
  pub none : IsNone answer ↔ AdmitNoneInCommon one other
  pub build : IfSome answer (λ v. v.build ≡ [])

-- the result of `npm_semver::coerce` for a text
pub record IsCoercion (rtl : Bool) (text : List ℕ) (answer : Option VersionValue) : Type 0 where
  pub found : IfSome answer (IsCoerced rtl text)
  pub none : IfNone answer ((v : VersionValue) → ¬ IsCoerced rtl text v)

-- the result of `npm_semver::coerce_with_prerelease` for a text
pub record IsFullCoercion (rtl : Bool) (text : List ℕ) (answer : Option VersionValue) : Type 0 where
  pub found : IfSome answer (IsCoercedWithPrerelease rtl text)
  pub none : IfNone answer ((v : VersionValue) → ¬ IsCoercedWithPrerelease rtl text v)

-- the result of `semver_keys::version_of_key`
pub record IsReadBack (key : List ℕ) (answer : Option VersionValue) : Type 0 where
  pub version : IfSome answer (IsVersionOfKey key)
  pub none : IfNone answer (IsNoKey key)

-- ---- the same calls with prereleases included

-- the result of `WithPrereleases::min_version`
pub record IsMinimumContained (sets : List (Ends VersionValue)) (answer : Option VersionValue) : Type 0 where
  pub least : IfSome answer (IsLeastContained sets)
  pub none : IsNone answer ↔ ContainsNone sets
  pub build : IfSome answer (HasBuildOfFirstAround sets)

-- the result of `WithPrereleases::least_beyond`
pub record IsLeastContainedBeyond (one other : List (Ends VersionValue)) (answer : Option VersionValue) : Type 0 where
  pub least : IfSome answer (IsLeastOf (ContainsBeyond one other))
  pub none : IsNone answer ↔ IsNoneOf (ContainsBeyond one other)
  pub contained : IsNone answer ↔ IsContainedIn one other
  pub build : IfSome answer (λ v. v.build ≡ [])

-- the result of `WithPrereleases::least_common`
pub record IsLeastContainedInBoth (one other : List (Ends VersionValue)) (answer : Option VersionValue) : Type 0 where
  pub least : IfSome answer (IsLeastOf (BothContain one other))
  pub none : IsNone answer ↔ IsNoneOf (BothContain one other)
  pub build : IfSome answer (λ v. v.build ≡ [])

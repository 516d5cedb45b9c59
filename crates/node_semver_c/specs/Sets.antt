-- The sets of a range as C has them: at each end a cut, which is a kind and, for two of the kinds, a version.
use Rattle.std.specs.Prelude.{◌≡◌, ◌⊎◌, ◌↔◌, ℕ, List, [], ◌∷◌, Option, Some, None, IfSome, IsNone, IsSome}
use Rattle.node_semver_c.specs.declared.handle.set.TheConstants.{AFTER, BEFORE, END, START}
use Rattle.node_semver_c.specs.declared.handle.set.CutRef.{CutRef}
use Rattle.node_semver_c.specs.declared.handle.set.SetHandle.{SetHandle}
use Rattle.node_semver_c.specs.declared.handle.set.SetRef.{SetRef}
use Rattle.node_semver_c.specs.declared.handle.version.VersionHandle.{VersionHandle}
use Rattle.node_semver_c.specs.declared.status.TheConstants.{NONE, OK, OUT_OF_MEMORY}
use Rattle.semver_cuts.specs.declared.cut.Cut.{Cut}
use Rattle.semver_cuts.specs.declared.cut.Cut.TheVariants.{Start, Before, After, End}
use Rattle.semver_cuts.specs.Ends.{Ends, HoldsCut}
use Rattle.semver_texts.specs.Comparison.{version_cmp}
use Rattle.semver_sets.specs.RangeSets.{IsRangeValue}
use Rattle.semver_texts.specs.Version.{VersionValue}

-- ---- writing

-- a cut that is written: its kind, and its version, or an empty handle
abbrev pub IsCutWritten : Cut VersionValue → ℕ → Option VersionValue → Type 0
IsCutWritten Start kind held = (kind ≡ START) × (held ≡ None)
IsCutWritten (Before v) kind held = (kind ≡ BEFORE) × (held ≡ Some v)
IsCutWritten (After v) kind held = (kind ≡ AFTER) × (held ≡ Some v)
IsCutWritten End kind held = (kind ≡ END) × (held ≡ None)

-- a set that is written, with both its cuts
abbrev pub IsSetWritten : Ends VersionValue → SetHandle → Type 0
IsSetWritten set written =
    IsCutWritten set.lower written.lower.kind written.lower.version.value
    × IsCutWritten set.upper written.upper.kind written.upper.version.value

-- both handles are empty
abbrev pub IsEmptySet : SetHandle → Type 0
IsEmptySet written = (written.lower.version.value ≡ None) × (written.upper.version.value ≡ None)

-- the set is written, or there is none and the handles are empty
abbrev pub IsSetOrNone : Option (Ends VersionValue) → ℕ → SetHandle → Type 0
IsSetOrNone None status written = (status ≡ NONE) × IsEmptySet written
IsSetOrNone (Some set) status written = (status ≡ OK) × IsSetWritten set written

-- the same; or an allocation failed, and the handles are empty
abbrev pub IsSetReported : Option (Ends VersionValue) → ℕ → SetHandle → Type 0
IsSetReported set status written =
    IsSetOrNone set status written ⊎ ((status ≡ OUT_OF_MEMORY) × IsEmptySet written)

-- ---- reading

-- a cut that is given: its kind, and the handle of its version if it has one
abbrev pub IsCutGiven : CutRef → Cut VersionValue → Type 0
IsCutGiven given Start = given.kind ≡ START
IsCutGiven given (Before v) = (given.kind ≡ BEFORE) × (given.version.value ≡ Some v)
IsCutGiven given (After v) = (given.kind ≡ AFTER) × (given.version.value ≡ Some v)
IsCutGiven given End = given.kind ≡ END

-- a set that is given, with both its cuts
abbrev pub IsSetGiven : SetRef → Ends VersionValue → Type 0
IsSetGiven given set = IsCutGiven given.lower set.lower × IsCutGiven given.upper set.upper

-- sets that are given, in their order
abbrev pub AreSetsGiven : List SetRef → List (Ends VersionValue) → Type 0
AreSetsGiven [] [] = Unit {0}
AreSetsGiven [] (set ∷ sets) = ⊥
AreSetsGiven (first ∷ given) [] = ⊥
AreSetsGiven (first ∷ given) (set ∷ sets) = IsSetGiven first set × AreSetsGiven given sets

-- no range has sets that are given so: there are none, or one has an unknown kind, lacks a version, contains no cut, or
-- has an end with a number above 9007199254740992 or an identifier that no text writes
abbrev pub AreNoRange : List SetRef → Type 0
AreNoRange given = (sets : List (Ends VersionValue)) → AreSetsGiven given sets → ¬ IsRangeValue sets

-- what `npm_semver::range_from_sets` returns of the sets that are given
pub record IsRangeOf (given : List SetRef) (answer : Option (List (Ends VersionValue))) : Type 0 where
  pub sets : IfSome answer (AreSetsGiven given)
  pub holds : IfSome answer IsRangeValue
  pub none : IsNone answer ↔ AreNoRange given

-- ---- for the private functions

-- the version of a handle that there may be
abbrev pub value_in : Option VersionHandle → Option VersionValue
value_in None = None
value_in (Some handle) = handle.value

-- no cut is given so
abbrev pub IsNoCut : CutRef → Type 0
IsNoCut given = (cut : Cut VersionValue) → ¬ IsCutGiven given cut

-- no set that contains a cut is given so
abbrev pub IsNoSet : SetRef → Type 0
IsNoSet given = (set : Ends VersionValue) → IsSetGiven given set → ¬ HoldsCut version_cmp set

-- what `npm_semver::range_from_sets` returns of a list of spans
pub record IsRangeWith (spans : List (Ends VersionValue)) (answer : Option (List (Ends VersionValue))) : Type 0 where
  pub sets : IfSome answer (λ range. range ≡ spans)
  pub some : IsSome answer ↔ IsRangeValue spans
  pub none : IsNone answer ↔ ¬ IsRangeValue spans

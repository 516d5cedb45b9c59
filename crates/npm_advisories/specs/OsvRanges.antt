-- Which versions an OSV advisory is about: the OSV schema's "affected[].ranges[].events", "affected[].versions" and
-- "Evaluation". Versions are compared by SemVer's order alone, so a prerelease counts as any other version.
use Rattle.std.specs.Prelude.{◌≡◌, ◌⊎◌, ℕ, List, [], ◌∷◌, Bool, false, Some, bytes_eq, codes}
use Rattle.semver_cuts.specs.Ends.{IsCutAtMost, IsCutBelow}
use Rattle.node_semver.specs.Cuts.{After, Before, Cut, End, Start}
use Rattle.node_semver.specs.Ranges.{AnyByRecursion}
use Rattle.node_semver.specs.Versions.{IsSame, IsVersionText, VersionValue, version_cmp}
use Rattle.npm_advisories.specs.ReadVersions.{IsReadAs}

-- an event of a range
pub data EventValue : Type 0 where
  introduced : (text : List ℕ) → EventValue
  fixed : (text : List ℕ) → EventValue
  last_affected : (text : List ℕ) → EventValue
  limit : (text : List ℕ) → EventValue

-- the event introduces a fault at this cut: before all versions for `0`, else before the version
abbrev pub Introduces : EventValue → Cut VersionValue → Type 0
Introduces (introduced text) cut =
    ((text ≡ codes "0") × (cut ≡ Start)) ⊎ ((v : VersionValue) × IsVersionText text v × (cut ≡ Before v))
Introduces (fixed text) cut = ⊥
Introduces (last_affected text) cut = ⊥
Introduces (limit text) cut = ⊥

-- the event ends it at this cut: before a version that is `fixed`, after one that is the `last_affected`
abbrev pub EndsAt : EventValue → Cut VersionValue → Type 0
EndsAt (introduced text) cut = ⊥
EndsAt (fixed text) cut = (v : VersionValue) × IsVersionText text v × (cut ≡ Before v)
EndsAt (last_affected text) cut = (v : VersionValue) × IsVersionText text v × (cut ≡ After v)
EndsAt (limit text) cut = ⊥

-- the event limits the range at this cut: after all versions for `*`, else before the version
abbrev pub LimitsAt : EventValue → Cut VersionValue → Type 0
LimitsAt (introduced text) cut = ⊥
LimitsAt (fixed text) cut = ⊥
LimitsAt (last_affected text) cut = ⊥
LimitsAt (limit text) cut =
    ((text ≡ codes "*") × (cut ≡ End)) ⊎ ((v : VersionValue) × IsVersionText text v × (cut ≡ Before v))

-- the list goes on with `last_affected` of this text
abbrev pub is_last : (text : List ℕ) → List EventValue → Bool
is_last text [] = false
is_last text (introduced other ∷ others) = false
is_last text (fixed other ∷ others) = false
is_last text (last_affected other ∷ others) = bytes_eq other text
is_last text (limit other ∷ others) = false

-- The fault that the event introduces goes on at this cut, behind the version itself, whatever ends there. Only one that the
-- list ends there at once does not: `introduced` 2.0.0, and then `last_affected` 2.0.0
abbrev pub GoesOnBehind : EventValue → (others : List EventValue) → Cut VersionValue → Type 0
GoesOnBehind (introduced text) others cut =
    (v : VersionValue) × IsVersionText text v × (is_last text others ≡ false) × (cut ≡ After v)
GoesOnBehind (fixed text) others cut = ⊥
GoesOnBehind (last_affected text) others cut = ⊥
GoesOnBehind (limit text) others cut = ⊥

abbrev pub GoesOn : List EventValue → Cut VersionValue → Type 0
GoesOn [] cut = ⊥
GoesOn (event ∷ others) cut = GoesOnBehind event others cut ⊎ GoesOn others cut

-- one of the events introduces a fault at this cut, or it goes on there
abbrev pub IsIntroducedAt : List EventValue → Cut VersionValue → Type 0
IsIntroducedAt events cut = AnyByRecursion (λ event. Introduces event cut) events ⊎ GoesOn events cut

-- ---- where faults are introduced, where they end, and the limits: which versions lie between

-- a fault of the first cut lasts until the second: no end lies after the one and not after the other
abbrev pub Lasts : (Ended : Cut VersionValue → Type 0) → (from to : Cut VersionValue) → Type 0
Lasts Ended from to =
    (end : Cut VersionValue) → Ended end → IsCutBelow version_cmp from end → IsCutBelow version_cmp to end

-- a fault that is introduced before this cut lasts until it
pub record IsReachedBefore (Introduced Ended : Cut VersionValue → Type 0) (cut : Cut VersionValue) : Type 0 where
  pub from : Cut VersionValue
  pub introduced : Introduced from
  pub before : IsCutBelow version_cmp from cut
  pub lasts : Lasts Ended from cut

-- A fault that is introduced at this version ends behind the version itself, and one that is introduced before lasts
-- until there: the end may be that of the other alone, as for `introduced` 1.0.0 and 2.0.0 and `last_affected` 2.0.0
pub record IsDoubtful (Introduced Ended : Cut VersionValue → Type 0) (v : VersionValue) : Type 0 where
  pub introduced : Introduced (Before v)
  pub end : Cut VersionValue
  pub ended : Ended end
  pub later : IsCutBelow version_cmp (Before v) end
  pub here : IsCutAtMost version_cmp end (After v)
  pub reached : IsReachedBefore Introduced Ended (Before v)

-- a fault begins where it is introduced, and behind the version where its end is doubtful
abbrev pub Begins : (Introduced Ended : Cut VersionValue → Type 0) → Cut VersionValue → Type 0
Begins Introduced Ended cut =
    Introduced cut ⊎ ((v : VersionValue) × IsDoubtful Introduced Ended v × (cut ≡ After v))

-- the version is before one of the limits, if there are any
abbrev pub IsBeforeLimits : (Limited : Cut VersionValue → Type 0) → VersionValue → Type 0
IsBeforeLimits Limited v = ((cut : Cut VersionValue) → ¬ Limited cut)
    ⊎ ((cut : Cut VersionValue) × Limited cut × IsCutBelow version_cmp (Before v) cut)

-- a fault begins at the version or before it, and lasts until there
pub record IsBetween (Introduced Ended Limited : Cut VersionValue → Type 0) (v : VersionValue) : Type 0 where
  pub from : Cut VersionValue
  pub begins : Begins Introduced Ended from
  pub reached : IsCutAtMost version_cmp from (Before v)
  pub lasts : Lasts Ended from (Before v)
  pub limited : IsBeforeLimits Limited v

-- the version is one of a range with these events: 1.5.0 for `introduced` 1.0.0 and `fixed` 2.0.0, and neither 0.9.0
-- nor 2.0.0
abbrev pub IsInEvents : (events : List EventValue) → VersionValue → Type 0
IsInEvents events v = IsBetween (IsIntroducedAt events)
    (λ cut. AnyByRecursion (λ event. EndsAt event cut) events)
    (λ cut. AnyByRecursion (λ event. LimitsAt event cut) events) v

-- ---- all versions of an advisory

-- the text is that of an equal version, builds aside: `1.2.3` and 1.2.3+b, and `=1.2.3` too
pub record IsTextOfSame (text : List ℕ) (v : VersionValue) : Type 0 where
  pub listed : VersionValue
  pub read : IsReadAs text (Some listed)
  pub same : IsSame listed v

-- the version lies in one of the ranges, or is one of the listed versions
abbrev pub IsInOsv : (ranges : List (List EventValue)) → (versions : List (List ℕ)) → VersionValue → Type 0
IsInOsv ranges versions v =
    AnyByRecursion (λ events. IsInEvents events v) ranges ⊎ AnyByRecursion (λ text. IsTextOfSame text v) versions

-- What is read of an element of `affected`.
use Rattle.std.specs.Prelude.{◌≡◌, ◌↔◌, ◌⊎◌, ◌++◌, ℕ, List, [], ◌∷◌, Option, Some, None, if◌then◌else◌}
use Rattle.std.specs.List.{Contains}
use Rattle.std.specs.List.Sorted.{IsPermutation, IsSorted}
use Rattle.semver_cuts.specs.Cut.{cut_cmp}
use Rattle.semver_cuts.specs.Ends.{IsCutAtMost, IsCutBelow}
use Rattle.node_semver.specs.Cuts.{After, Before, Cut, End}
use Rattle.node_semver.specs.Ranges.{AnyByRecursion, IsRangeCut}
use Rattle.node_semver.specs.Versions.{VersionValue, version_cmp}
use Rattle.npm_advisories.specs.OsvFaults.{has_place}
use Rattle.npm_advisories.specs.OsvRanges.{EndsAt, EventValue, GoesOn, GoesOnBehind, Introduces, IsBeforeLimits, IsBetween}
use Rattle.npm_advisories.specs.OsvRanges.{IsDoubtful, IsIntroducedAt, Lasts}
use Rattle.npm_advisories.specs.OsvRanges.{LimitsAt, fixed, introduced, last_affected, limit}
use Rattle.npm_advisories.specs.Private.VersionTest.{is_version}
use Rattle.npm_advisories.specs.declared.fault.FaultKind.{FaultKind}
use Rattle.npm_advisories.specs.declared.fault.FaultKind.TheVariants as Faults
use Rattle.npm_advisories.specs.declared.osv.events.Event.{Event}
use Rattle.npm_advisories.specs.declared.osv.events.Event.TheVariants as Events
use Rattle.npm_advisories.specs.declared.osv.marks.Mark.{Mark}
use Rattle.npm_advisories.specs.declared.osv.marks.Mark.TheVariants as Kinds
use Rattle.npm_advisories.specs.declared.osv.marks.Marks.{Marks}

-- an event as a contract sees it
abbrev pub event_value : Event → EventValue
event_value (Events.Introduced text) = introduced text.now
event_value (Events.Fixed text) = fixed text.now
event_value (Events.LastAffected text) = last_affected text.now
event_value (Events.Limit text) = limit text.now

-- the fault of an event, and of a text that has to be a version
abbrev pub place_fault : EventValue → Option FaultKind
place_fault event = if has_place is_version event then None else Some Faults.Event

abbrev pub version_fault : (text : List ℕ) → Option FaultKind
version_fault text = if is_version text then None else Some Faults.Event

-- ---- the marks of events

-- the mark is at the cut of the event
abbrev pub IsMark : EventValue → Mark → Type 0
IsMark event (Kinds.Introduced cut) = Introduces event cut × IsRangeCut cut
IsMark event (Kinds.Ended cut) = EndsAt event cut × IsRangeCut cut
IsMark event (Kinds.Limited cut) = LimitsAt event cut × IsRangeCut cut

-- one mark more
abbrev pub IsMarked : Mark → (old new : Marks) → Type 0
IsMarked (Kinds.Introduced cut) old new = (new.starts.items ≡ old.starts.items ++ cut ∷ [])
    × (new.ends.items ≡ old.ends.items) × (new.limits.items ≡ old.limits.items)
IsMarked (Kinds.Ended cut) old new = (new.starts.items ≡ old.starts.items)
    × (new.ends.items ≡ old.ends.items ++ cut ∷ []) × (new.limits.items ≡ old.limits.items)
IsMarked (Kinds.Limited cut) old new = (new.starts.items ≡ old.starts.items)
    × (new.ends.items ≡ old.ends.items) × (new.limits.items ≡ old.limits.items ++ cut ∷ [])

-- these are the cuts of such events, and each of them can be an end of a range
pub record AreCuts (Is : EventValue → Cut VersionValue → Type 0) (events : List EventValue) (cuts : List (Cut VersionValue))
    : Type 0 where
  pub same : (cut : Cut VersionValue) → AnyByRecursion (λ event. Is event cut) events ↔ Contains cuts cut
  pub each : (cut : Cut VersionValue) → Contains cuts cut → IsRangeCut cut

-- the marks are those of the events
pub record AreMarks (events : List EventValue) (marks : Marks) : Type 0 where
  pub starts : AreCuts Introduces events marks.starts.items
  pub ends : AreCuts EndsAt events marks.ends.items
  pub limits : AreCuts LimitsAt events marks.limits.items

-- these are the cuts behind versions where faults go on, and each of them can be an end of a range
pub record AreGoingOn (events : List EventValue) (cuts : List (Cut VersionValue)) : Type 0 where
  pub same : (cut : Cut VersionValue) → GoesOn events cut ↔ Contains cuts cut
  pub each : (cut : Cut VersionValue) → Contains cuts cut → IsRangeCut cut

-- this is such a cut of an event, or there is none
abbrev pub IsGoingOn : Option EventValue → (others : List EventValue) → Option (Cut VersionValue) → Type 0
IsGoingOn None others cut = cut ≡ None
IsGoingOn (Some event) others None = (cut : Cut VersionValue) → ¬ GoesOnBehind event others cut
IsGoingOn (Some event) others (Some cut) = GoesOnBehind event others cut × IsRangeCut cut

-- the marks are those of the events, and behind versions where faults go on
pub record AreRangeMarks (events : List EventValue) (marks : Marks) : Type 0 where
  pub starts : (cut : Cut VersionValue) → IsIntroducedAt events cut ↔ Contains marks.starts.items cut
  pub ends : AreCuts EndsAt events marks.ends.items
  pub limits : AreCuts LimitsAt events marks.limits.items
  pub cuts : (cut : Cut VersionValue) → Contains marks.starts.items cut → IsRangeCut cut

-- each cut of the marks can be an end of a range
pub record HasRangeCuts (marks : Marks) : Type 0 where
  pub starts : (cut : Cut VersionValue) → Contains marks.starts.items cut → IsRangeCut cut
  pub ends : (cut : Cut VersionValue) → Contains marks.ends.items cut → IsRangeCut cut
  pub limits : (cut : Cut VersionValue) → Contains marks.limits.items cut → IsRangeCut cut

-- the same marks, in another order
pub record HasSameMarks (marks other : Marks) : Type 0 where
  pub starts : IsPermutation marks.starts.items other.starts.items
  pub ends : IsPermutation marks.ends.items other.ends.items
  pub limits : IsPermutation marks.limits.items other.limits.items

abbrev pub AreSorted : List (Cut VersionValue) → Type 0
AreSorted cuts = IsSorted (cut_cmp version_cmp) cuts

pub record AreInOrder (marks : Marks) : Type 0 where
  pub starts : AreSorted marks.starts.items
  pub ends : AreSorted marks.ends.items
  pub limits : AreSorted marks.limits.items

-- ---- the versions between marks

abbrev pub IsBetweenMarks : Marks → VersionValue → Type 0
IsBetweenMarks marks v =
    IsBetween (Contains marks.starts.items) (Contains marks.ends.items) (Contains marks.limits.items) v

-- the version is not before the cut where a fault begins, which lasts until there, and before a limit
pub record IsFrom (marks : Marks) (from : Cut VersionValue) (v : VersionValue) : Type 0 where
  pub reached : IsCutAtMost version_cmp from (Before v)
  pub lasts : Lasts (Contains marks.ends.items) from (Before v)
  pub limited : IsBeforeLimits (Contains marks.limits.items) v

-- the same of a fault that is introduced at this cut, and may begin again
abbrev pub IsFromStart : (marks : Marks) → (start : Cut VersionValue) → VersionValue → Type 0
IsFromStart marks start v = IsFrom marks start v ⊎ ((w : VersionValue) × (start ≡ Before w)
    × IsDoubtful (Contains marks.starts.items) (Contains marks.ends.items) w × IsFrom marks (After w) v)

-- the least end after the cut, or the end of all
pub record IsNextEnd (Ended : Cut VersionValue → Type 0) (from end : Cut VersionValue) : Type 0 where
  pub least : (other : Cut VersionValue) → Ended other → IsCutBelow version_cmp from other
      → IsCutAtMost version_cmp end other
  pub found : (end ≡ End) ⊎ (Ended end × IsCutBelow version_cmp from end)

-- the versions before this cut are those before a limit
pub record IsUpTo (limits : List (Cut VersionValue)) (limit : Cut VersionValue) : Type 0 where
  pub same : (v : VersionValue) → IsBeforeLimits (Contains limits) v ↔ IsCutBelow version_cmp (Before v) limit
  pub found : (limit ≡ End) ⊎ Contains limits limit

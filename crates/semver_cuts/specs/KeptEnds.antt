-- Which of two ends is kept if two spans of a list are intersected: that of the earlier span or that of the later.
use Rattle.std.specs.Prelude.{◌≡◌, ◌⊎◌}
use Rattle.std.specs.declared.cmp.Ordering.{Ordering}
use Rattle.semver_cuts.specs.declared.cut.Cut.{Cut}
use Rattle.semver_cuts.specs.Ends.{IsCutAtMost, IsCutBelow}

-- the later lower end, unless it is less than the earlier one
abbrev pub IsLaterGreatest : {T : Type 0} → (T → T → Ordering) → Cut T → Cut T → Cut T → Type 0
IsLaterGreatest cmp earlier later kept =
    (IsCutBelow cmp later earlier × (kept ≡ earlier)) ⊎ (IsCutAtMost cmp earlier later × (kept ≡ later))

-- the earlier upper end, unless the later one is less
abbrev pub IsEarlierLeast : {T : Type 0} → (T → T → Ordering) → Cut T → Cut T → Cut T → Type 0
IsEarlierLeast cmp earlier later kept =
    (IsCutBelow cmp later earlier × (kept ≡ later)) ⊎ (IsCutAtMost cmp earlier later × (kept ≡ earlier))

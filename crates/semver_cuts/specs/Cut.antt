-- The order of cuts: each cut has its place in the line of the values, whatever their type and order.
use Rattle.std.specs.declared.cmp.Ordering.{Ordering}
use Rattle.std.specs.declared.cmp.Ordering.TheVariants.{Less, Equal, Greater}
use Rattle.std.specs.Ordering.{ordering_then}
use Rattle.semver_cuts.specs.declared.cut.Cut.{Cut}
use Rattle.semver_cuts.specs.declared.cut.Cut.TheVariants.{Start, Before, After, End}

-- how two cuts compare: by their values first, and `Before` is less than `After`: `Before 3`, `After 3`, `Before 5`
abbrev pub cut_cmp : {T : Type 0} → (T → T → Ordering) → Cut T → Cut T → Ordering
cut_cmp cmp (Before v) (Before w) = cmp v w
cut_cmp cmp (After v) (After w) = cmp v w
cut_cmp cmp (Before v) (After w) = ordering_then (cmp v w) Less
cut_cmp cmp (After v) (Before w) = ordering_then (cmp v w) Greater
cut_cmp cmp Start Start = Equal
cut_cmp cmp End End = Equal
cut_cmp cmp Start _ = Less
cut_cmp cmp End _ = Greater
cut_cmp cmp _ Start = Greater
cut_cmp cmp _ End = Less

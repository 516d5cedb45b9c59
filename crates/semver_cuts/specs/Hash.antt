-- What a cut and a span feed to a hasher, given what a value feeds to it.
use Rattle.std.specs.Prelude.{◌++◌}
use Rattle.std.specs.Hash as fed
use Rattle.std.specs.Hash.{HashWrites}
use Rattle.semver_cuts.specs.declared.cut.Cut.{Cut}
use Rattle.semver_cuts.specs.declared.cut.Cut.TheVariants.{Start, Before, After, End}
use Rattle.semver_cuts.specs.Ends.{Ends}

-- a number for the kind, and then the value, if there is one
abbrev pub cut_writes : {T : Type 0} → (T → HashWrites) → Cut T → HashWrites
cut_writes writes Start = fed.u8 0
cut_writes writes (Before v) = fed.u8 1 ++ writes v
cut_writes writes (After v) = fed.u8 2 ++ writes v
cut_writes writes End = fed.u8 3

-- the lower end, and then the upper
abbrev pub span_writes : {T : Type 0} → (T → HashWrites) → Ends T → HashWrites
span_writes writes span = cut_writes writes span.lower ++ cut_writes writes span.upper

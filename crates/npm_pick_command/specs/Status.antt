-- The exit status.
use Rattle.std.specs.Prelude.{ℕ, true, false}
use Rattle.npm_pick_reports.specs.declared.reply.Ending.{Ending}
use Rattle.npm_pick_reports.specs.declared.reply.Ending.TheVariants.{Compared, Kept, Nothing, Picked}

-- 0 if a version is picked, nothing is outdated or each package has a document with all its installed versions, and 1 if
-- none is picked, something is outdated or a mirror has no document of a package or lacks an installed version
abbrev pub status_of_ending : Ending → ℕ
status_of_ending Picked = 0
status_of_ending (Nothing error) = 1
status_of_ending (Compared true absent) = 1
status_of_ending (Compared false absent) = 0
status_of_ending (Kept true) = 0
status_of_ending (Kept false) = 1

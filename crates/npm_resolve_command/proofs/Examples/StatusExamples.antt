-- Worked rows of the definitions: statuses.
use Rattle.std.proofs.Common.{◌≡◌, refl}
use Rattle.npm_resolve_command.specs.Status.{status_of_ending}
use Rattle.npm_resolve_reports.specs.declared.reply.Ending.TheVariants.{NoSelection, Selected, Undecided, Unread}

pub versions_fit : status_of_ending Selected ≡ 0
versions_fit = refl

pub none_fit : status_of_ending NoSelection ≡ 1
none_fit = refl

pub neither_is_known : status_of_ending Undecided ≡ 3
neither_is_known = refl

pub no_lock_file_is_written : status_of_ending Unread ≡ 2
no_lock_file_is_written = refl

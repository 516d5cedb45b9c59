-- Worked rows of the definitions: statuses.
use Rattle.std.proofs.Common.{◌≡◌, false, refl, true}
use Rattle.npm_pick.specs.declared.error.PickError.TheVariants.{NoTag}
use Rattle.npm_pick_reports.specs.declared.reply.Ending.TheVariants.{Compared, Kept, Nothing, Picked}
use Rattle.npm_pick_command.specs.Status.{status_of_ending}

pub a_version_is_picked : status_of_ending Picked ≡ 0
a_version_is_picked = refl

pub no_version_is_picked : status_of_ending (Nothing NoTag) ≡ 1
no_version_is_picked = refl

pub something_is_outdated : status_of_ending (Compared true 0) ≡ 1
something_is_outdated = refl

pub a_document_is_missing_for_outdated : status_of_ending (Compared false 3) ≡ 0
a_document_is_missing_for_outdated = refl

pub a_document_is_missing_for_a_mirror : status_of_ending (Kept false) ≡ 1
a_document_is_missing_for_a_mirror = refl

-- The counts of the outcomes, and whether all packages are complete.
use Rattle.std.proofs.Common.{ap}
use Rattle.std.proofs.lemmas.List.Folds.{list_all-map}
use Rattle.npm_pick_reports.specs.Mirror.{is_complete, package_value}
use Rattle.npm_pick_reports.specs.declared.reply.Ending.TheVariants.{Kept}
use Rattle.npm_pick_reports.proofs.Replies.{compared_ending}
use Rattle.npm_pick_reports.proofs.reply.Reply.ending.Goals as goal

pub returns-in-Compared : goal.returns-in-Compared
returns-in-Compared c = rw c.in-Compared.is (compared_ending c.in-Compared.outcomes.items c.has_outdated.result
    c.absent_count.result (rw c.deref.ensures.value at c.has_outdated.ensures)
    (rw c.deref-in-Compared.ensures.value at c.absent_count.ensures))

pub returns-in-Kept : goal.returns-in-Kept
returns-in-Kept c = rw (c.in-Kept.is, list_all-map is_complete package_value c.in-Kept.packages.items)
    (ap Kept (rw c.deref-in-Kept.ensures.value at c.are_complete.ensures))

-- The exceptions so far, before those of the items that are left, are those of all items.
use Rattle.std.proofs.Common.{◌≡◌, drop, map}
use Rattle.npm_lock_reports.specs.AdvisoryExceptions.{exception_value}
use Rattle.toml.specs.View.{items_view}
use Rattle.npm_lock_reports.specs.Reading.{items_read}
use Rattle.npm_lock_reports.proofs.Listing.{before}
use Rattle.npm_lock_reports.proofs.advisory_exceptions.read.all_in.Given as goal

abbrev pub invariant-loop-place : goal.invariant-loop-place
invariant-loop-place l = before (map exception_value l.list.items) (items_read l.place (items_view (drop l.place l.items)))
    ≡ items_read 0 (items_view l.items)

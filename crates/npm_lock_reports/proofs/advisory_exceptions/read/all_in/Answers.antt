-- The exceptions so far, and one more.
use Rattle.std.proofs.Common.{◌≡◌, ◌++◌, ◌∷◌, [], map}
use Rattle.std.proofs.lemmas.List.{map-append}
use Rattle.npm_lock_reports.specs.AdvisoryExceptions.{exception_value}
use Rattle.toml.specs.View.{items_view}
use Rattle.npm_lock_reports.specs.Reading.{items_read}
use Rattle.npm_lock_reports.proofs.Listing.{one-more, refused-at}
use Rattle.npm_lock_reports.proofs.advisory_exceptions.read.all_in.Goals as goal

pub loop-place-preserved : goal.loop-place-preserved
loop-place-preserved c =
    let more = one-more c.as_slice-items.result.now c.loop-place.place c.index-items-place.result
    (map exception_value c.loop-place.list.items) (items_read 0 (items_view c.as_slice-items.result.now))
    c.loop-place-test.true c.index-items-place.is c.loop-place.invariant (exception_value c.in-Ok.exception) c.in-Ok.ensures.found in
    let all : map exception_value c.push.new.list.items
    ≡ map exception_value c.loop-place.list.items ++ (exception_value c.in-Ok.exception ∷ []) =
    rw c.in_ok-push-in-Ok.ensures.added (map-append exception_value c.loop-place.list.items (c.in-Ok.exception ∷ [])) in
    rw all more

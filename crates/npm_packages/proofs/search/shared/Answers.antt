-- What both begin with is no longer than the bytes that are the same.
use Rattle.std.proofs.Common.{◌∙◌, ◌++◌, ◌≤◌, ap, arith, drop, length, sym}
use Rattle.std.proofs.lemmas.List.{take-append-drop}
use Rattle.npm_packages.proofs.LastPlaces.{begins_taken, no_more}
use Rattle.npm_packages.proofs.search.shared.Goals as goal
use Rattle.npm_packages.proofs.search.shared.Goals.{then-bytes-test+else-left-same, else-bytes-test}

pub returns-clause-kept : goal.returns-clause-kept
returns-clause-kept c = λ start of_left of_folder less less_left.
    let long : length start ≤ c.bytes.same = elim c.bytes-test.branch [
      | then-bytes-test+else-left-same w ↦
          no_more c.args.left.now c.args.folder.now start c.bytes.same of_left of_folder w.if-left-same.false
      | else-bytes-test w ↦ grind (arith, c.min.ensures, c.saturating_sub-end.ensures, w.bytes-test.false, less, less_left)
    ] in
    begins_taken c.args.left.now start c.bytes.same of_left long

pub returns-clause-common : goal.returns-clause-common
returns-clause-common c = (
  (drop c.bytes.same c.args.left.now, sym (take-append-drop c.bytes.same c.args.left.now)),
  (
    drop c.bytes.same c.args.folder.now,
    sym (take-append-drop c.bytes.same c.args.folder.now)
        ∙ ap (λ t. t ++ drop c.bytes.same c.args.folder.now) (sym c.bytes.invariant.alike),
  ),
)

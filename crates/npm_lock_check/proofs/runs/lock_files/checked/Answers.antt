-- The outcome of one lock file more.
use Rattle.std.proofs.Common.{◌≡◌, [], List, append-nil, drop, get_or, map, refl, ℕ}
use Rattle.std.proofs.lemmas.List.{drop_all}
use denote.Ref.{Bor}
use Rattle.std.specs.Fn.{FnReturnsAt}
use Rattle.npm_lock_check.specs.Files.{AreChecked, no_file}
use Rattle.npm_lock_check.proofs.CheckedFiles.{outcome_more}
use Rattle.npm_lock_check.proofs.runs.lock_files.checked.Goals as goal

pub loop-file-init : goal.loop-file-init
loop-file-init g c = λ outcomes outputs of_all. rw (c.new.ensures.items, c.new-2.ensures.items) of_all

pub loop-file-preserved : goal.loop-file-preserved
loop-file-preserved g c =
    let none : Bor (List ℕ) = record { ref_ptr = (0, 0); now = [] } in
    let one = get_or c.args.files.now c.loop-file.file-index none in
    let gives : FnReturnsAt g.F.Fn c.args.check one.now c.check-outcome.result =
    record { shown = one; shows = refl; says = record { met = c.check-outcome.ensures } } in
    outcome_more (FnReturnsAt g.F.Fn c.args.check) c.args.files.now c.loop-file.file-index none c.loop-file-test.true
    c.loop-file.made.outcomes.items c.loop-file.made.outputs.items c.loop-file.invariant c.check-outcome.result
    c.add.new.made.outcomes.items c.add.new.made.outputs.items gives c.in_ok-add.ensures

pub returns : goal.returns
returns g c =
    let gone : drop c.loop-file.file-index c.args.files.now ≡ [] =
    drop_all c.loop-file.file-index c.args.files.now c.loop-file-test.false in
    let ended : AreChecked (FnReturnsAt g.F.Fn c.args.check)
    (map (λ file. file.now) (drop c.loop-file.file-index c.args.files.now)) [] [] = rw gone no_file in
    rw (append-nil c.loop-file.made.outcomes.items, append-nil c.loop-file.made.outputs.items)
    at (c.loop-file.invariant [] [] ended)

use Rattle.std.proofs.Common.{◌≤◌, arith, length}
use Rattle.npm_semver.proofs.Versions.Extras.{run_there}
use Rattle.npm_semver.proofs.coercion.extras.word_end.Goals.{else-start-limit, then-start-limit}
use Rattle.npm_semver.proofs.coercion.extras.word_end.Goals as goal

pub returns-then-end-limit-clause-ending : goal.returns-then-end-limit-clause-ending
returns-then-end-limit-clause-ending c =
    let end = c.characters_end-end.result in
    let later : c.args.limit ≤ c.if-start-limit.limit = elim c.if-start-limit.branch [
      | then-start-limit w ↦ omega (arith, w.if-start-limit, w.limit-is)
      | else-start-limit w ↦ omega (arith, w.limit-is)
    ] in
    let run = run_there c.args.text.now (length c.args.text.now) c.args.start end (omega arith)
    c.characters_end-end.ensures.within (omega (arith, c.if-end-start.false, c.characters_end-end.ensures.from))
    c.characters_end-end.ensures.characters in
    (run.0, omega (arith, later, c.if-end-limit.true, run.1), run.2)

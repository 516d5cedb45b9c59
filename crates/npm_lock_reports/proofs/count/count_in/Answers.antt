-- No member is left.
use Rattle.std.proofs.Common.{◌≡◌, ◌∙◌, ◌+◌, ap, arith}
use Rattle.serde_json.specs.View.{members_view, view}
use Rattle.npm_lock.specs.Findings.{counted}
use Rattle.npm_lock_reports.specs.Count.{omitted_in}
use Rattle.npm_lock_reports.proofs.count.count_in.Goals as goal

pub returns : goal.returns
returns c =
    let entries : c.into_iter-folder-iterator.result ≡ c.args.members.now.entries = cc in
    let all = rw c.in-None.ensures.steps.0 at c.loop-folder.invariant.same in
    let small : c.loop-folder.count ≡ counted (c.loop-folder.count + 0) = grind (arith, c.loop-folder.invariant.fits) in
    small ∙ all ∙ ap (λ members. counted (omitted_in c.args.omissions (view c.args.lock.now) (members_view members))) entries

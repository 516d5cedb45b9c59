use Rattle.serde_json.specs.View.{view}
use Rattle.npm_pick.proofs.Late.{all_late}
use Rattle.npm_pick.proofs.ranged.has_none_in_time.Goals as goal

pub returns : goal.returns
returns c =
    let versions = rw c.versions_of.ensures at c.are_late-versions.ensures in
    let staged = rw c.requires.staged at c.are_late-staged.ensures in
    let restricted = rw c.requires.restricted at c.are_late-restricted.ensures in
    rw c.are_true.ensures (all_late (view c.args.asked.now.packument.now) c.args.asked.now.options.now _ _ _
    c.are_late-versions.result c.are_late-staged.result c.are_late-restricted.result versions staged restricted)

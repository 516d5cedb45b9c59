-- The findings of a member come before those of the members that are left.
use Rattle.std.proofs.Common.{◌≡◌, ◌∙◌, append-nil, map, string_bytes, sym}
use Rattle.serde_json.specs.View.{members_view, view}
use Rattle.npm_lock.specs.Sources.{source_value, sources_of_member, sources_of_members}
use Rattle.npm_lock.proofs.MoreSources.{added}
use Rattle.npm_lock.proofs.sources.add_of_members.Goals as goal

pub loop-folder-preserved : goal.loop-folder-preserved
loop-folder-preserved c =
    let whole = rw c.in-Some.ensures.steps at c.loop-folder.invariant in
    let more = rw c.as_str-folder.ensures.value at c.in_ok-add_of_member.ensures in
    added _ _ _ _ _ whole more

pub returns : goal.returns
returns c =
    let entries : c.into_iter-folder-iterator.result ≡ c.args.members.now.entries = cc in
    let last = rw (entries, c.in-None.ensures.steps.0) at c.loop-folder.invariant in
    sym (append-nil _) ∙ last

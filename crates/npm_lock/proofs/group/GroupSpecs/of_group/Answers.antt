use Rattle.std.proofs.Common.{◌≡◌, rules}
use Rattle.serde_json.specs.View.{members_view}
use Rattle.npm_lock.specs.Private.GroupSpecs.{left_of}
use Rattle.npm_texts.specs.Lemmas.Keys.{sorted_keys}
use Rattle.npm_lock.proofs.group.GroupSpecs.of_group.Goals as goal

pub returns-clause-sorted : goal.returns-clause-sorted
returns-clause-sorted c =
    let left : left_of (record { next = c.next.result; rest = c.next.new.self }) ≡ members_view
    c.args.members.now.entries =
    search (rules, c.next.ensures.steps, c.iter-rest.ensures.rest) in
    rw left (sorted_keys c.args.members.now.entries c.iter-rest.ensures.ordered)

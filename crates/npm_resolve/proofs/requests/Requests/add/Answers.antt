-- The name waits last, and was seen.
use Rattle.std.proofs.Common.{string_bytes, true}
use Rattle.std.proofs.lemmas.Map.Text.{btree_set_updates_text}
use Rattle.npm_resolve.specs.Private.Gathering.{fresh}
use Rattle.npm_resolve.proofs.requests.Requests.add.Goals as goal
use Rattle.npm_resolve.proofs.requests.Requests.add.Goals.{in-Err, in-Ok}

pub returns : goal.returns
returns c = elim c.match-push_back.branch [
  | in-Ok w ↦ rw w.result-is (fresh (record { name = c.in_ok-from_str.field-0; «package» = c.in_ok-from_str-2.field-0 })
      c.in_ok-from_str.ensures.ok c.in_ok-from_str-2.ensures.ok (rw w.in-Ok.is at c.push_back.ensures.items)
      (λ other. rw (← c.in_ok-text.ensures.ok) (btree_set_updates_text (string_bytes c.in_ok-text.text) c.args.self.now.seen
      c.insert.new.self true c.in_ok-insert.ensures.updates other)))
  | in-Err w ↦ rw w.result-is tt
]

-- The name waits last, and was seen.
use Rattle.std.proofs.Common.{◌∙◌, ◌++◌, [], ◌∷◌, ap, map, string_bytes, true}
use Rattle.std.proofs.lemmas.List.{map-append}
use Rattle.std.proofs.lemmas.Map.Text.{btree_set_updates_text}
use Rattle.npm_resolve.specs.Private.Reaching.{fresh}
use Rattle.npm_resolve.proofs.flat_locks.reached.Reached.add.Goals as goal
use Rattle.npm_resolve.proofs.flat_locks.reached.Reached.add.Goals.{in-Err, in-Ok}

pub returns : goal.returns
returns c = elim c.match-push_back.branch [
  | in-Ok w ↦ rw w.result-is (fresh
      (ap (map string_bytes) (rw w.in-Ok.is at c.push_back.ensures.items)
      ∙ map-append string_bytes c.args.self.now.waiting.items (c.in_ok-waiting.waiting ∷ [])
      ∙ ap (λ n. map string_bytes c.args.self.now.waiting.items ++ (n ∷ [])) c.in_ok-waiting.ensures.ok)
      (λ other. rw (← c.in_ok-text.ensures.ok) (btree_set_updates_text (string_bytes c.in_ok-text.text) c.args.self.now.seen
      c.insert.new.self true c.in_ok-insert.ensures.updates other)))
  | in-Err w ↦ rw w.result-is tt
]

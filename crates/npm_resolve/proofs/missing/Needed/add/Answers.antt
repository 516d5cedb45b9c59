-- The name is in the set, and no other name is new.
use Rattle.std.proofs.Common.{◌∙◌, bytes_eq, string_bytes, true}
use Rattle.std.proofs.lemmas.Map.Text.{btree_set_updates_text}
use Rattle.npm_resolve.specs.Private.Needing.{has}
use Rattle.npm_resolve.proofs.Needing.{if_or}
use Rattle.npm_resolve.proofs.missing.Needed.add.Goals as goal

pub returns : goal.returns
returns c name = rw (← c.in_ok-text.ensures.ok) (btree_set_updates_text (string_bytes c.in_ok-text.text) c.args.self.now.names
    c.insert.new.self true c.in_ok-insert.ensures.updates name
    ∙ if_or (has c.args.self.now name) (bytes_eq (string_bytes c.in_ok-text.text) name))

-- The id has the place.
use Rattle.std.proofs.Common.{string_bytes}
use Rattle.std.proofs.lemmas.Map.Text.{btree_map_updates_text}
use Rattle.npm_lock_reports.proofs.advisory_exceptions.index.put.Goals as goal

pub returns : goal.returns
returns c = btree_map_updates_text (string_bytes c.args.id) c.args.ids.now c.insert.new.self _ c.in_ok-insert.ensures.updates

-- The value that the map has at the key is the member of its view.
use Rattle.toml.proofs.Views.{table_get}
use Rattle.npm_lock_reports.proofs.advisory_exceptions.item.value_at.Goals as goal

pub returns : goal.returns
returns c = table_get c.get.result c.args.key.now c.args.table.now.entries c.get.ensures.value

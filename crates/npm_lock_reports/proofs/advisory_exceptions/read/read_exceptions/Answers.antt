-- The values of the text are refused, and the fault has its place.
use Rattle.toml.specs.View.{table_view}
use Rattle.npm_lock_reports.proofs.PlacingItems.{refused_text}
use Rattle.npm_lock_reports.proofs.advisory_exceptions.read.read_exceptions.Goals as goal

pub returns-in-Ok-clause-refused : goal.returns-in-Ok-clause-refused
returns-in-Ok-clause-refused c =
    refused_text c.args.text.now (table_view c.in-Ok.table) c.in-Err-exceptions_in.error c.placed.result c.in-Ok.ensures.ok c.placed.ensures
    c.in-Err-exceptions_in.ensures.refused

-- No exception names a value that is no text.
use Rattle.std.proofs.Common.{◌∙◌, ap, option_map, sym}
use Rattle.serde_json.specs.View.{view}
use Rattle.npm_lock_reports.specs.Exceptions.{exceptions_value}
use Rattle.npm_lock_reports.proofs.KnownPlaces.{by-no-value}
use Rattle.npm_lock_reports.proofs.indexed.Indexed.place_of_value.Goals as goal

pub returns-in-None : goal.returns-in-None
returns-in-None c = by-no-value (exceptions_value c.args.self.now.exceptions) c.args.name.now (view c.args.value.now)
    (sym c.as_str.ensures ∙ ap (option_map (λ s. s.now)) c.in-None.is)

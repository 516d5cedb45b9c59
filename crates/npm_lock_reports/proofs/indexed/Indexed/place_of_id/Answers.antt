-- No exception names an `id` that is neither a text nor a number of digits.
use Rattle.std.proofs.Common.{◌∙◌, ap, option_map, sym}
use Rattle.serde_json.specs.View.{view}
use Rattle.npm_lock_reports.specs.Exceptions.{exceptions_value}
use Rattle.npm_lock_reports.proofs.KnownPlaces.{by-neither}
use Rattle.npm_lock_reports.proofs.indexed.Indexed.place_of_id.Goals as goal

pub returns-in-None : goal.returns-in-None
returns-in-None c = by-neither (exceptions_value c.args.self.now.exceptions) c.args.name.now (view c.args.id.now)
    (sym c.as_str.ensures ∙ ap (option_map (λ s. s.now)) c.in_default.is) (sym c.as_u64.ensures ∙ c.in-None.is)

-- The first exception that names the `id` or an alias.
use Rattle.std.proofs.Common.{◌∙◌, sym}
use Rattle.serde_json.specs.View.{view}
use Rattle.npm_advisories.specs.Advisories.{aliases_items}
use Rattle.npm_advisories.specs.KnownIds.{any_is, is_id}
use Rattle.npm_lock_reports.specs.Exceptions.{exceptions_value}
use Rattle.npm_lock_reports.proofs.Placing.{first-or}
use Rattle.npm_lock_reports.proofs.indexed.Indexed.place_of.Goals as goal

pub returns : goal.returns
returns c = c.earlier.ensures ∙ rw (c.in_ok-by_id.ensures, c.in_ok-by_alias.ensures)
    (sym (first-or (exceptions_value c.args.self.now.exceptions) c.args.name.now (λ known. is_id known (view c.args.about.id.now))
    (λ known. any_is known (aliases_items c.args.about.aliases))))

-- No exception names an alias where there is none.
use Rattle.std.proofs.Common.{ap, option_map}
use Rattle.npm_lock_reports.specs.Exceptions.{exceptions_value}
use Rattle.npm_lock_reports.proofs.KnownPlaces.{by-no-address}
use Rattle.npm_lock_reports.proofs.indexed.Indexed.place_of_address.Goals as goal

pub returns-in-None : goal.returns-in-None
returns-in-None c = by-no-address (exceptions_value c.args.self.now.exceptions) c.args.name.now
    (option_map (λ text. text.now) c.args.text) (ap (option_map (λ text. text.now)) c.in-None.is)

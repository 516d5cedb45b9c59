-- An object that is about no wanted package adds nothing.
use Rattle.std.proofs.Common.{◌∙◌, sym}
use Rattle.serde_json.specs.View.{view}
use Rattle.npm_advisories.specs.Index.{has_name}
use Rattle.npm_advisories.specs.Lemmas.Adding.{adds-other}
use Rattle.npm_advisories.specs.Lemmas.Unwanted.{object-other}
use Rattle.npm_advisories.proofs.osv.add_osv.Goals as goal

pub returns-then-not-concerns-clause-read : goal.returns-then-not-concerns-clause-read
returns-then-not-concerns-clause-read c =
    adds-other (has_name c.args.names.now) _ _
    (λ n is. object-other (has_name c.args.names.now) n is c.args.today (view c.args.entry.now)
    (sym c.concerns.ensures ∙ c.if-not-concerns.true))

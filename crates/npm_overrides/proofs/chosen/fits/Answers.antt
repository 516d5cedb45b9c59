-- The names are compared, and then the range and the spec.
use Rattle.std.proofs.Common.{◌∙◌, sym}
use Rattle.std.proofs.lemmas.Result.{IfOk-weaker}
use Rattle.npm_overrides.specs.Choice.{named, other}
use Rattle.npm_overrides.proofs.chosen.fits.Goals as goal

pub returns-then-eq : goal.returns-then-eq
returns-then-eq c = IfOk-weaker c.meets.result _ _ (λ met is. named met (sym c.eq.ensures ∙ c.if-eq.true) is) c.meets.ensures

pub returns-else-eq : goal.returns-else-eq
returns-else-eq c = other (sym c.eq.ensures ∙ c.if-eq.false)

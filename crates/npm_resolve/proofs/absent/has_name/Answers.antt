-- The name at the place was compared.
use Rattle.std.proofs.Common.{◌∙◌, sym}
use Rattle.std.proofs.lemmas.Slice.Eq.{bytes_eq-Decides}
use Rattle.npm_resolve.proofs.absent.has_name.Goals as goal

pub returns-in-Some : goal.returns-in-Some
returns-in-Some c = λ yes. (
  c.in-Some.one.now,
  (c.args.place, c.in-Some.ensures.lookup.3.0, sym c.in-Some.ensures.lookup.1),
  (bytes_eq-Decides c.in-Some.one.now.name.now c.args.name.now).0 (sym c.eq.ensures ∙ yes),
)

-- The first key of the range is of the name, or no key of the range is.
use Rattle.std.proofs.Common.{◌≡◌, ◌∙◌, None, rules, sym}
use Rattle.std.proofs.lemmas.Slice.Eq.{bytes_eq-Decides}
use Rattle.npm_packages.proofs.LastPlaces.{first_in, none_from, other_from}
use Rattle.npm_packages.proofs.places.first_from.Goals as goal

pub returns-in_err-key : goal.returns-in_err-key
returns-in_err-key c =
    let result : c.from_residual.result ≡ None = search rules in
    rw result (none_from c.args.places.now (c.args.name, c.args.bytes) _ (c.range.ensures.in_range tt) c.in_err-key.ensures.steps.0)

pub returns-then-eq : goal.returns-then-eq
returns-then-eq c = first_in c.args.places.now (c.args.name, c.args.bytes) _ (c.range.ensures.in_range tt) _ _
    c.in_ok-key.ensures.steps
    ((bytes_eq-Decides c.in_ok-key.key.now.0.now c.args.name.now).0 (sym c.eq.ensures ∙ c.if-eq.true))

pub returns-else-eq : goal.returns-else-eq
returns-else-eq c = other_from c.args.places.now (c.args.name, c.args.bytes) _ (c.range.ensures.in_range tt) _ _
    c.in_ok-key.ensures.steps
    (λ same. cc (c.eq.ensures, c.if-eq.false, (bytes_eq-Decides c.in_ok-key.key.now.0.now c.args.name.now).1 same))

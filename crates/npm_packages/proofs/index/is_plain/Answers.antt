-- A path has one end.
use Rattle.std.proofs.Common.{◌≡◌, ◌∙◌, sym}
use Rattle.std.proofs.lemmas.Slice.Eq.{bytes_eq-Decides}
use Rattle.npm_packages.proofs.Fronts.{same_end}
use Rattle.npm_packages.proofs.index.is_plain.Goals as goal

pub returns : goal.returns
returns c = (
  (λ yes.
      let same : c.end_of.result.now ≡ c.args.name.now =
      (bytes_eq-Decides c.end_of.result.now c.args.name.now).0 (sym c.eq.ensures ∙ yes) in
      rw same at c.end_of.ensures),
  (λ plain. c.eq.ensures ∙ (bytes_eq-Decides c.end_of.result.now c.args.name.now).1
      (same_end c.args.name.now c.end_of.result.now c.args.name.now c.end_of.ensures plain)),
)

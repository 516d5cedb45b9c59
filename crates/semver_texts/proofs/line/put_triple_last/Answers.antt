use Rattle.std.proofs.Common.{◌∙◌, ◌∷◌, ◌++◌, ℕ, List, ap, arith, decimal}
use Rattle.semver_texts.specs.Lemmas.Texts.LineText.{whole_text}
use Rattle.semver_texts.proofs.line.put_triple_last.Goals as goal

pub returns-clause-text : goal.returns-clause-text
returns-clause-text c =
    c.put_triple.ensures.text
    ∙ ap (λ (l : List ℕ). decimal c.args.triple.0 ++ (46 ∷ (decimal c.args.triple.1 ++ (46 ∷ l))))
    (whole_text c.args.line.now (decimal c.args.triple.2) (omega arith))

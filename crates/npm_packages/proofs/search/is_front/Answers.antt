-- What `strip_prefix` does not find is no beginning.
use Rattle.std.proofs.Common.{◌∙◌, [], ◌∷◌, append-nil, inl, inr, refl, sym}
use Rattle.npm_packages.proofs.search.is_front.Goals as goal

pub returns-in-None : goal.returns-in-None
returns-in-None c =
    let none = c.in-None.ensures.cases in (
      (λ yes. cc yes),
      (λ is. elim is [
        | inl empty ↦ absurd (none c.args.path.now (rw empty refl))
        | inr some ↦ elim some [
          | inl same ↦ absurd (none [] (same ∙ sym (append-nil c.args.front.now)))
          | inr rest ↦ absurd (none (47 ∷ rest.0) rest.1)
        ]
      ]),
    )

use Rattle.std.proofs.Common.{◌∙◌, ap, length, List, ℕ, rules}
use Rattle.std.specs.Prelude.{◌==◌}
use Rattle.semver_texts.specs.Characters.{is_digit}
use Rattle.semver_texts.specs.Lemmas.Public.{rest_of-empty}
use Rattle.npm_semver.proofs.strict.written.are_digits.Goals as goal

pub returns : goal.returns
returns c =
    c.is_empty.ensures ∙ ap (λ (l : List ℕ). length l == 0) (c.split.ensures.rest is_digit (search rules))
    ∙ rest_of-empty is_digit c.args.text.now

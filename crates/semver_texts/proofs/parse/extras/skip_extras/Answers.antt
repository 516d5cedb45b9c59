use Rattle.std.proofs.Common.{ap, sym, ◌∙◌, List, ℕ}
use Rattle.semver_texts.specs.IdentifierValue.{IdentifierValue}
use Rattle.semver_texts.specs.Lemmas.Texts.CleanExtras.{clean_extras}
use Rattle.semver_texts.proofs.parse.extras.skip_extras.Goals as goal

-- a prerelease, a build and the rest
abbrev Extras : Type 0
Extras = (List IdentifierValue × List IdentifierValue) × List ℕ

pub returns-then-is_clean_end : goal.returns-then-is_clean_end
returns-then-is_clean_end c =
    let clean = sym c.is_clean_end.ensures ∙ c.if-is_clean_end.true in
    sym (ap (λ (read : Extras). read.1) (clean_extras c.args.text.now clean))

use Rattle.std.proofs.Common.{◌≡◌, ◌∙◌, ℕ, List, ap, length, rules, sym}
use Rattle.std.specs.Prelude.{◌==◌}
use Rattle.std.specs.List.{list_all}
use Rattle.semver_texts.specs.Characters.{is_identifier_character}
use Rattle.semver_texts.specs.Lemmas.Public.{rest_of-empty}
use Rattle.npm_semver.proofs.identifiers.are_all_characters.Goals as goal

pub returns : goal.returns
returns c =
    let text = c.args.text.now in
    let same : c.is_empty.result ≡ list_all is_identifier_character text =
    c.is_empty.ensures ∙ ap (λ (l : List ℕ). length l == 0) (c.split.ensures.rest is_identifier_character (search rules))
    ∙ rest_of-empty is_identifier_character text in
    ((λ is. sym same ∙ is), (λ all. same ∙ all))

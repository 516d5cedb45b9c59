use Rattle.std.proofs.Common.{◌-◌, ◌∙◌, ap, length, List, sym, take, ℕ}
use Rattle.semver_texts.specs.Lemmas.Texts.ListedTexts.{list-before, list_rest-short, split-some}
use Rattle.semver_texts.proofs.parse.listed.split_list.Goals as goal

pub slice_bounds-result-count : goal.slice_bounds-result-count
slice_bounds-result-count c = rw c.skip_identifiers-rest.ensures (list_rest-short c.args.text.now)

pub returns-then-begins_identifier : goal.returns-then-begins_identifier
returns-then-begins_identifier c =
    let text = c.args.text.now in
    split-some c.args.otherwise.now text _ _ (sym c.begins_identifier.ensures ∙ c.if-begins_identifier.true)
    (ap (λ (l : List ℕ). take (length text - length l) text) c.skip_identifiers-rest.ensures ∙ list-before text)
    c.skip_identifiers-rest.ensures

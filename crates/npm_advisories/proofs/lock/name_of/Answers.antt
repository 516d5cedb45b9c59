-- The name that the member says, or else another one.
use Rattle.std.proofs.Common.{◌≡◌, ◌∙◌, Some, ap, codes, inl, inr, option_map, subst, sym}
use Rattle.serde_json.specs.View.{view}
use Rattle.npm_advisories.specs.Advisories.{text_of}
use Rattle.npm_advisories.specs.LockFile.{IsName, said, unsaid}
use Rattle.npm_advisories.proofs.lock.name_of.Goals as goal

pub returns-in-Some : goal.returns-in-Some
returns-in-Some c =
    let folder = c.args.folder.now in
    let entry = view c.args.entry.now in
    let alias = option_map (λ name. name.now) c.args.alias in
    let name = c.in-Some.said.now in
    let told : text_of (codes "name") entry ≡ Some name =
    sym c.text_at.ensures ∙ ap (option_map (λ text. text.now)) c.in-Some.is in
    elim c.said_or_unsaid.ensures [
      | inl is ↦ subst (IsName folder alias entry) (sym is.0) (said name told is.1)
      | inr is ↦ unsaid c.said_or_unsaid.result.now (inr (told ∙ ap Some is.0)) is.1
    ]

pub returns-in-None : goal.returns-in-None
returns-in-None c =
    unsaid c.unsaid_name.result.now
    (inl (sym c.text_at.ensures ∙ ap (option_map (λ text. text.now)) c.in-None.is)) c.unsaid_name.ensures

-- What follows the folder is `/` and more, or the path does not begin with it.
use Rattle.std.proofs.Common.{◌≡◌, ◌∙◌, ◌++◌, None, Some, ap, codes, option_map, sym}
use Rattle.std.proofs.lemmas.List.{append_cancel_left}
use Rattle.npm_texts.specs.Texts.{rest_after, without_end}
use Rattle.npm_manifest_files.proofs.TextStarts.{is_parted, is_whole}
use Rattle.npm_manifest_files.proofs.below.is_below.Goals as goal

pub returns-in-Some : goal.returns-in-Some
returns-in-Some c =
    let start = without_end (codes "/") c.args.folder.now in
    let found : rest_after start c.args.path.now ≡ Some c.in-Some.rest.now =
    ap (λ s. rest_after s c.args.path.now) (sym c.without_end.ensures) ∙ sym c.rest_after.ensures
    ∙ ap (option_map (λ r. r.now)) c.in-Some.is in
    let whole = is_parted start c.args.path.now c.in-Some.rest.now found in (
      (λ t. let more = c.goes_on.ensures.0 t in
          record { rest = more.0; more = more.1; whole = whole ∙ ap (λ r. start ++ r) more.2 }),
      (λ below. c.goes_on.ensures.1
          (below.rest, below.more, append_cancel_left start _ _ (sym whole ∙ below.whole))),
    )

pub returns-in-None : goal.returns-in-None
returns-in-None c =
    let start = without_end (codes "/") c.args.folder.now in
    let none : rest_after start c.args.path.now ≡ None =
    ap (λ s. rest_after s c.args.path.now) (sym c.without_end.ensures) ∙ sym c.rest_after.ensures
    ∙ ap (option_map (λ r. r.now)) c.in-None.is in (
      (λ t. let no : ⊥ = cc t in absurd no),
      (λ below. absurd (is_whole start c.args.path.now none (codes "/" ++ below.rest) below.whole)),
    )

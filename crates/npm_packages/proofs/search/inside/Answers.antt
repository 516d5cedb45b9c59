-- The place of a name in a folder ends with the name, after `node_modules/` and the folder.
use Rattle.std.proofs.Common.{◌≡◌, ◌≢◌, ◌∙◌, ◌++◌, None, ap, arith, codes, length, rules, sym}
use Rattle.std.proofs.lemmas.List.{append_cancel_right}
use Rattle.std.proofs.lemmas.Str.Pattern.{strip_suffix_char}
use Rattle.npm_packages.proofs.Fronts.{modules_of, no_slash_at, not_empty_at, place_parts, slashed, slashed_some}
use Rattle.npm_packages.proofs.search.inside.Goals as goal

pub returns-in_err-front_of : goal.returns-in_err-front_of
returns-in_err-front_of c =
    let result : c.from_residual.result ≡ None = search rules in
    rw result (λ folder is. c.in_err-front_of.ensures (slashed folder ++ codes "node_modules/")
    (is ∙ place_parts folder c.args.name.now))

pub returns-in_err-modules : goal.returns-in_err-modules
returns-in_err-modules c =
    let result : c.from_residual-in_err-modules.result ≡ None = search rules in
    rw result (λ folder is. c.in_err-modules.ensures (slashed folder)
    (append_cancel_right c.in_ok-front_of.field-0.now (slashed folder ++ codes "node_modules/") c.args.name.now
    (sym c.in_ok-front_of.ensures ∙ is ∙ place_parts folder c.args.name.now)))

pub returns-in_err-folder : goal.returns-in_err-folder
returns-in_err-folder c =
    let none = rw c.in_err-folder.was at
    (strip_suffix_char 47 c.in_ok-modules.modules.now c.strip_suffix.result c.strip_suffix.ensures.cases (omega arith))
    in
    let some : length c.in_ok-modules.modules.now ≢ 0 =
    λ empty. search (rules, empty, c.is_empty.ensures, c.if-is_empty.false) in
    let result : c.from_residual-in_err-folder.result ≡ None = search rules in
    rw result (λ folder is. no_slash_at c.in_ok-modules.modules.now folder
    (modules_of _ c.in_ok-front_of.field-0.now _ c.args.name.now folder c.in_ok-front_of.ensures c.in_ok-modules.ensures is)
    some none)

pub returns-then-is_empty-2 : goal.returns-then-is_empty-2
returns-then-is_empty-2 c = λ folder is.
    let cut = rw c.in_ok-folder.was at
    (strip_suffix_char 47 c.in_ok-modules.modules.now c.strip_suffix.result c.strip_suffix.ensures.cases (omega arith))
    in
    let some : length c.in_ok-modules.modules.now ≢ 0 =
    λ empty. search (rules, empty, c.is_empty.ensures, c.if-is_empty.false) in
    let none : length c.in_ok-folder.folder.now ≡ 0 = search (rules, c.is_empty-2.ensures, c.if-is_empty-2.true) in
    not_empty_at c.in_ok-modules.modules.now c.in_ok-folder.folder.now folder
    (modules_of _ c.in_ok-front_of.field-0.now _ c.args.name.now folder c.in_ok-front_of.ensures c.in_ok-modules.ensures is)
    some cut none

pub returns : goal.returns
returns c =
    let cut = rw c.in_ok-folder.was at
    (strip_suffix_char 47 c.in_ok-modules.modules.now c.strip_suffix.result c.strip_suffix.ensures.cases (omega arith))
    in
    let some : length c.in_ok-folder.folder.now ≢ 0 =
    λ none. search (rules, none, c.is_empty-2.ensures, c.if-is_empty-2.false) in
    c.in_ok-front_of.ensures ∙ ap (λ t. t ++ c.args.name.now) c.in_ok-modules.ensures
    ∙ ap (λ t. (t ++ codes "node_modules/") ++ c.args.name.now) (cut ∙ sym (slashed_some c.in_ok-folder.folder.now some))
    ∙ sym (place_parts c.in_ok-folder.folder.now c.args.name.now)

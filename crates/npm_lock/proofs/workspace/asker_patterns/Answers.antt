-- Only the root has workspaces, if it has patterns.
use Rattle.std.proofs.Common.{◌≡◌, ◌==◌, ◌∙◌, ℕ, List, [], ◌∷◌, Bool, true, arith, eqb→eq, length, refl, rules, subst, sym}
use Rattle.std.proofs.lemmas.Result.{IfOk-weaker}
use Rattle.serde_json.specs.View.{items_view, view}
use Rattle.npm_lock.specs.Workspaces.{IsByPatterns, IsWorkspace, elsewhere, no_patterns, of_root}
use Rattle.npm_lock.specs.declared.workspace.Workspace.{Workspace}
use Rattle.npm_lock.proofs.Globs.Lists.{by-written}
use Rattle.npm_lock.proofs.PatternLists.{by_none}
use Rattle.npm_lock.proofs.workspace.asker_patterns.Goals as goal

no_bytes : (text : List ℕ) (mark : Bool) → mark ≡ (length text == 0) → mark ≡ true → text ≡ []
no_bytes [] mark is empty = refl
no_bytes (b ∷ text) mark is empty =
    let never : (length (b ∷ text) == 0) ≡ true = sym is ∙ empty in
    let zero : length (b ∷ text) ≡ 0 = eqb→eq _ _ (rw never tt) in
    absurd (omega (arith, zero))

pub returns-then-not-is_empty : goal.returns-then-not-is_empty
returns-then-not-is_empty c = λ folder found outside said.
    let P : Workspace → Type 0 = IsWorkspace c.args.asker.folder.now (view c.args.asker.member.now) folder in
    subst P (by_none c.none.result folder c.none.ensures.unread (c.none.ensures.matched folder) found said)
    (elsewhere (λ empty. search (rules, empty, c.is_empty.ensures, c.if-not-is_empty.true)))

pub returns-in-Some : goal.returns-in-Some
returns-in-Some c = IfOk-weaker c.in_sets.result _ _ (λ made by. λ folder found outside said.
    let empty = no_bytes c.args.asker.folder.now c.is_empty.result c.is_empty.ensures c.if-not-is_empty.false in
    let items = items_view c.in-Some.patterns.now.items in
    of_root items found empty outside (sym c.in-Some.ensures)
    (subst (IsByPatterns folder items) (sym (rw c.deref.ensures.value at (by folder found said))) (by-written folder items)))
    c.in_sets.ensures

pub returns-in-None : goal.returns-in-None
returns-in-None c = λ folder found outside said.
    let P : Workspace → Type 0 = IsWorkspace c.args.asker.folder.now (view c.args.asker.member.now) folder in
    subst P (by_none c.none-in-None.result folder c.none-in-None.ensures.unread
    (c.none-in-None.ensures.matched folder) found said) (no_patterns (sym c.in-None.ensures))

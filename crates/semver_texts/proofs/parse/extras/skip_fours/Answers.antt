use Rattle.std.proofs.Common.{◌≡◌, ◌<◌, ◌≤◌, ◌+◌, ℕ, List, [], ◌∷◌, true, arith, get_or, length, drop, sym, ap, refl}
use Rattle.std.proofs.Common.{◌∙◌}
use Rattle.std.proofs.lemmas.List.{drop_more, take_rest}
use Rattle.semver_texts.specs.Reading.{goes_on, list_rest}
use Rattle.semver_texts.proofs.parse.extras.skip_fours.Goals as goal

step : (b : ℕ) (rest : List ℕ) → goes_on (b ∷ rest) ≡ true → list_rest (b ∷ rest) ≡ list_rest rest
unfolding list_rest
step b rest goes = rw goes refl

-- the list goes on at place i
passed : (text : List ℕ) (i : ℕ) → 5 ≤ length text → i < 4
    → goes_on (get_or text i 0 ∷ get_or text (i + 1) 0 ∷ []) ≡ true
    → list_rest (drop (i + 1) text) ≡ list_rest (drop i text)
passed text i long few goes =
    let here = drop_more text i 0 (omega arith) in
    let next = drop_more text (i + 1) 0 (omega arith) in
    sym (ap list_rest here ∙ step (get_or text i 0) (drop (i + 1) text) (rw next goes))

pub returns-then-not-goes_on_at-2 : goal.returns-then-not-goes_on_at-2
returns-then-not-goes_on_at-2 c =
    let text = c.fours.rest.now in
    let long = c.in-len5-up.len_at_least in
    ap list_rest (take_rest text 1)
    ∙ passed text 0 long (omega arith) (sym c.goes_on_at.ensures ∙ c.if-not-goes_on_at.false)
    ∙ c.fours.invariant

pub returns-then-not-goes_on_at-3 : goal.returns-then-not-goes_on_at-3
returns-then-not-goes_on_at-3 c =
    let text = c.fours.rest.now in
    let long = c.in-len5-up.len_at_least in
    ap list_rest (take_rest text 2)
    ∙ passed text 1 long (omega arith) (sym c.goes_on_at-in-len5-up.ensures ∙ c.if-not-goes_on_at-2.false)
    ∙ passed text 0 long (omega arith) (sym c.goes_on_at.ensures ∙ c.if-not-goes_on_at.false)
    ∙ c.fours.invariant

pub returns-then-not-goes_on_at-4 : goal.returns-then-not-goes_on_at-4
returns-then-not-goes_on_at-4 c =
    let text = c.fours.rest.now in
    let long = c.in-len5-up.len_at_least in
    ap list_rest (take_rest text 3)
    ∙ passed text 2 long (omega arith) (sym c.goes_on_at-in-len5-up-2.ensures ∙ c.if-not-goes_on_at-3.false)
    ∙ passed text 1 long (omega arith) (sym c.goes_on_at-in-len5-up.ensures ∙ c.if-not-goes_on_at-2.false)
    ∙ passed text 0 long (omega arith) (sym c.goes_on_at.ensures ∙ c.if-not-goes_on_at.false)
    ∙ c.fours.invariant

pub fours-preserved : goal.fours-preserved
fours-preserved c =
    let text = c.fours.rest.now in
    let long = c.in-len5-up.len_at_least in
    ap list_rest (take_rest text 4)
    ∙ passed text 3 long (omega arith) (sym c.goes_on_at-in-len5-up-3.ensures ∙ c.if-not-goes_on_at-4.false)
    ∙ passed text 2 long (omega arith) (sym c.goes_on_at-in-len5-up-2.ensures ∙ c.if-not-goes_on_at-3.false)
    ∙ passed text 1 long (omega arith) (sym c.goes_on_at-in-len5-up.ensures ∙ c.if-not-goes_on_at-2.false)
    ∙ passed text 0 long (omega arith) (sym c.goes_on_at.ensures ∙ c.if-not-goes_on_at.false)
    ∙ c.fours.invariant

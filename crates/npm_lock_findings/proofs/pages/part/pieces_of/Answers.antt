-- A section has the messages of its rows, and a suite those of the findings in their order.
use Rattle.std.proofs.Common.{◌≡◌, Err, IfOk, List, Ok, Result, map, subst, sym, ℕ}
use Rattle.std.specs.List.Sorted.{IsPermutation}
use Rattle.std.proofs.lemmas.List.Sorted.{IsPermutation-refl}
use Rattle.npm_lock_findings.specs.Private.Said.{said_in}
use Rattle.npm_lock_findings.proofs.pages.part.pieces_of.Goals as goal

-- ---- of pieces whose messages are the second list, of which the first is an order
then : {T E : Type 0} (r : Result T E) (messages said : List (List ℕ)) (of : T → List (List ℕ)) → IsPermutation messages said
    → IfOk r (λ x. of x ≡ said) → IfOk r (λ x. IsPermutation messages (of x))
then (Ok x) messages said of is held = subst (λ list. IsPermutation messages list) (sym held) is
then (Err e) messages said of is held = tt

pub returns-in-Html : goal.returns-in-Html
returns-in-Html c = then c.section_pieces.result _ _ (λ pieces. said_in pieces.items) c.requires c.section_pieces.ensures

pub returns-in-Junit : goal.returns-in-Junit
returns-in-Junit c = then c.suite_pieces.result _ _ (λ pieces. said_in pieces.items) (IsPermutation-refl _) c.suite_pieces.ensures

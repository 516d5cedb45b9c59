-- The messages of the sorted rows are those of the others, in another order.
use Rattle.std.proofs.Common.{◌≡◌, List, ℕ, map, subst}
use Rattle.std.specs.List.Sorted.{IsPermutation}
use Rattle.std.proofs.lemmas.List.Sorted.{IsPermutation-map}
use Rattle.npm_lock_findings.specs.Private.Said.{row_message}
use Rattle.npm_lock_findings.specs.declared.pages.order.Row.{Row}
use Rattle.npm_lock_findings.proofs.pages.order.rows_of.Goals as goal

sorted : (messages : List (List ℕ)) (rows others : List Row) → map row_message rows ≡ messages → IsPermutation rows others
    → IsPermutation messages (map row_message others)
sorted messages rows others same is = subst (λ list. IsPermutation list (map row_message others)) same
    (IsPermutation-map row_message rows others is)

pub returns : goal.returns
returns c = sorted _ _ _ c.in_ok-rows.ensures c.in_ok-sort.ensures.permutation

-- The order is total, and the closure compares by it.
use Rattle.std.proofs.Common.{rules}
use Rattle.std.proofs.lemmas.List.Sorted.{answers_always, ranks_by}
use Rattle.std.proofs.lemmas.Result.{on_ok_weaker}
use Rattle.npm_resolve.specs.Private.Orders.{lowest_total}
use Rattle.npm_resolve.specs.declared.candidates.candidate.Candidate.{Candidate}
use Rattle.npm_resolve.proofs.candidates.listed.put_in_order.Goals as goal

pub returns-then-is_lowest-clause-sorted : goal.returns-then-is_lowest-clause-sorted
returns-then-is_lowest-clause-sorted c = rw c.if-is_lowest.true (on_ok_weaker c.sort_by.result
    (λ sorted. sorted _ (ranks_by lowest_total (λ (x : Candidate). x)) (answers_always _ _ _ (λ f a r f' k. search rules)))
    c.sort_by.ensures.sorted)

pub returns-then-is_lowest-clause-stable : goal.returns-then-is_lowest-clause-stable
returns-then-is_lowest-clause-stable c = rw c.if-is_lowest.true (c.sort_by.ensures.stable _
    (ranks_by lowest_total (λ (x : Candidate). x)) (answers_always _ _ _ (λ f a r f' k. search rules)))

pub returns-else-is_lowest-clause-sorted : goal.returns-else-is_lowest-clause-sorted
returns-else-is_lowest-clause-sorted c = rw c.if-is_lowest.false c.sort.ensures.sorted

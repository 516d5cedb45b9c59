-- Nothing is to come, so those with the key and the others are all.
use Rattle.std.proofs.Common.{◌≡◌, ◌∙◌, [], append-nil, arith, refl, rules}
use Rattle.std.proofs.lemmas.Grind.{common_steps}
use Rattle.npm_resolve.proofs.candidates.locked.key_first.Goals as goal

pub returns : goal.returns
returns c =
    let empty : c.loop-candidate.candidate-iterator.rest.items ≡ [] = first_of (search rules, grind (arith, common_steps)) in
    let all : c.into_iter-candidate-iterator.result.rest.items ≡ c.args.candidates.items =
    c.into_iter-candidate-iterator.ensures.into_iter_gives.0 in
    let first = rw (empty, append-nil, all) at c.loop-candidate.invariant.first in
    let others = rw (empty, append-nil, all) at c.loop-candidate.invariant.others in
    c.in_ok-append.ensures.items ∙ rw (first, others) refl

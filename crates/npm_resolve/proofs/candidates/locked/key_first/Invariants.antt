-- Those with the key so far, and then those to come, are all with the key; and so of the others.
use Rattle.std.proofs.Common.{◌≡◌, ◌++◌, bytes_eq, not}
use Rattle.std.specs.List.{filter}
use Rattle.npm_resolve.specs.declared.candidates.candidate.Candidate.{Candidate}
use Rattle.npm_resolve.proofs.candidates.locked.key_first.Given as goal

abbrev pub invariant-loop-candidate : goal.invariant-loop-candidate
invariant-loop-candidate l = record {
  first : l.first.items ++ filter (λ (c : Candidate). bytes_eq c.key.now l.key) l.candidate-iterator.rest.items
      ≡ filter (λ (c : Candidate). bytes_eq c.key.now l.key) l.initial.candidate-iterator.rest.items;
  others : l.others.items ++ filter (λ (c : Candidate). not (bytes_eq c.key.now l.key)) l.candidate-iterator.rest.items
      ≡ filter (λ (c : Candidate). not (bytes_eq c.key.now l.key)) l.initial.candidate-iterator.rest.items;
}

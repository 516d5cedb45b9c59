use Rattle.std.proofs.Common.{◌≡◌, All, take, true}
use Rattle.version_solving.specs.declared.certificate.Term.{Term}
use Rattle.version_solving.specs.Private.Values.{has}
use Rattle.version_solving.proofs.excluded.have_value.Given as goal

abbrev pub invariant-loop-term : goal.invariant-loop-term
invariant-loop-term l = All (λ (t : Term). t.name ≡ l.name → has t.values l.value ≡ true) (take l.term-index l.terms)

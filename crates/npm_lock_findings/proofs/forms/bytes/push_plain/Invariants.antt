-- What is added so far is safe.
use Rattle.npm_lock_findings.specs.Private.Adding.{Adds}
use Rattle.npm_lock_findings.proofs.forms.bytes.push_plain.Given as goal

abbrev pub invariant-loop-byte : goal.invariant-loop-byte
invariant-loop-byte l = Adds l.form l.initial.out.items l.out.items

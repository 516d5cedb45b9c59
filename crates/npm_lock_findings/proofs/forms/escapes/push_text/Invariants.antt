-- What is added so far is safe.
use Rattle.npm_lock_findings.specs.Private.Adding.{Adds}
use Rattle.npm_lock_findings.proofs.forms.escapes.push_text.Given as goal

abbrev pub invariant-loop-index : goal.invariant-loop-index
invariant-loop-index l = Adds l.form l.initial.out.items l.out.items

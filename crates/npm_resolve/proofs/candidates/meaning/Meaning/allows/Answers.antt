-- By what the text means.
use Rattle.std.proofs.Common.{◌≡◌, ◌∙◌, refl, sym, true, false}
use Rattle.npm_resolve.proofs.Allowing.{any_is, default_is, inside_is, none_is, only_is}
use Rattle.npm_resolve.proofs.candidates.meaning.Meaning.allows.Goals as goal

pub returns-in-Only : goal.returns-in-Only
returns-in-Only c = λ value means.
    only_is value c.args.candidate.now c.eq.result _ (rw c.in-Only.is at means) (rw c.as_str.ensures.value at c.eq.ensures)

pub returns-in-Inside : goal.returns-in-Inside
returns-in-Inside c = λ value means.
    let inside = rw c.in-Inside.is at means in
    inside_is value c.args.candidate.now c.satisfies.result _ inside.0 c.satisfies.ensures inside.1 inside.2
    (inside.3 c.args.candidate.now.version)

pub returns-then-candidate : goal.returns-then-candidate
returns-then-candidate c = λ value means.
    let any = rw c.in-Any.is at means in
    default_is value c.args.candidate.now _ any.0 any.1 any.2 c.if-candidate.true c.if-candidate.true

pub returns-else-candidate : goal.returns-else-candidate
returns-else-candidate c = λ value means.
    let any = rw c.in-Any.is at means in
    any_is value c.args.candidate.now c.satisfies-else-candidate.result _ any.0 c.satisfies-else-candidate.ensures any.1
    c.if-candidate.false (any.3 c.args.candidate.now.version)

pub returns-in-Nothing : goal.returns-in-Nothing
returns-in-Nothing c = λ value means.
    none_is value c.args.candidate.now false (rw c.in-Nothing.is at means) refl

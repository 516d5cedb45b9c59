use Rattle.std.proofs.Common.{rules}
use Rattle.npm_semver.proofs.Versions.StrictTexts.{strict-all, strict-numbers, unstrict-identifier}
use Rattle.npm_semver.proofs.Versions.StrictTexts.{unstrict-number, unstrict-within}
use Rattle.npm_semver.proofs.strict.written.unstrict_from.Goals as goal

pub returns-in-Err-clause-some : goal.returns-in-Err-clause-some
returns-in-Err-clause-some c = unstrict-number c.args.text.now c.in-Err.left c.in-Err.ensures.unstrict

pub returns-in_default-clause-none : goal.returns-in_default-clause-none
returns-in_default-clause-none c =
    strict-numbers c.args.text.now c.in-Ok.rest.now c.in-Ok.ensures.strict (search rules)

pub returns-in-Ok-skip_strict-clause-none : goal.returns-in-Ok-skip_strict-clause-none
returns-in-Ok-skip_strict-clause-none c =
    strict-all c.args.text.now c.in-Ok.rest.now c.in-Some.identifiers.now _ c.in-Ok.ensures.strict (search rules)
    c.in-Ok-skip_strict.ensures.strict

pub returns-in-Err-skip_strict-clause-within : goal.returns-in-Err-skip_strict-clause-within
returns-in-Err-skip_strict-clause-within c =
    unstrict-within c.args.text.now c.in-Ok.rest.now c.in-Some.identifiers.now c.in-Err-skip_strict.left
    c.in-Ok.ensures.strict (search rules) c.in-Err-skip_strict.ensures.unstrict

pub returns-in-Err-skip_strict-clause-some : goal.returns-in-Err-skip_strict-clause-some
returns-in-Err-skip_strict-clause-some c =
    unstrict-identifier c.args.text.now c.in-Ok.rest.now c.in-Some.identifiers.now c.in-Err-skip_strict.left
    c.in-Ok.ensures.strict (search rules) c.in-Err-skip_strict.ensures.unstrict

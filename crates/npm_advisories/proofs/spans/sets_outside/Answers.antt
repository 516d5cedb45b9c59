-- The difference of all versions and the range, or nothing.
use Rattle.std.proofs.lemmas.Result.{IfOk-weaker}
use Rattle.std.proofs.Common.{◌∙◌, ap, sym}
use Rattle.node_semver.specs.RangeAlgebra.{sets_of_answer}
use Rattle.npm_advisories.proofs.Releases.{difference-releases}
use Rattle.npm_advisories.proofs.spans.sets_outside.Goals as goal

pub returns-in-Some-clause-releases : goal.returns-in-Some-clause-releases
returns-in-Some-clause-releases c =
    IfOk-weaker c.sets.result _ _ (λ sets is.
    difference-releases c.in_ok-any.field-0 c.in_ok-any.ensures.all c.args.range.now sets.items c.in_ok-outside.field-0
    (is ∙ sym (ap sets_of_answer c.in-Some.is)) c.in_ok-outside.ensures.releases) c.sets.ensures.sets

pub returns-clause-releases : goal.returns-clause-releases
returns-clause-releases c =
    difference-releases c.in_ok-any.field-0 c.in_ok-any.ensures.all c.args.range.now _ c.in_ok-outside.field-0
    (c.new.ensures.items ∙ sym (ap sets_of_answer c.in-None.is)) c.in_ok-outside.ensures.releases

-- Marks in order have the versions of the marks.
use Rattle.std.proofs.lemmas.Result.{IfOk-weaker}
use Rattle.npm_advisories.proofs.OsvBetween.{cuts-moved, have-moved}
use Rattle.npm_advisories.proofs.osv.between.spans_of_marks.Goals as goal

pub spans_between-requires-clause-cuts : goal.spans_between-requires-clause-cuts
spans_between-requires-clause-cuts c =
    cuts-moved c.args.marks c.in_ok-sorted.field-0 c.in_ok-sorted.ensures.same c.requires

pub returns : goal.returns
returns c =
    IfOk-weaker c.spans_between.result _ _ (λ spans is.
    have-moved c.args.marks c.in_ok-sorted.field-0 c.in_ok-sorted.ensures.same spans.items is) c.spans_between.ensures

use Rattle.std.proofs.Common.{arith, sym, ◌∙◌}
use Rattle.std.proofs.lemmas.Bool.{ltb-false, ltb-true}
use Rattle.semver_cuts.proofs.Walks.{shares-one, one-list}
use Rattle.semver_cuts.proofs.algebra.merged.MergedSpans.shares_cut.Goals as goal

pub returns-in-len1-len1 : goal.returns-in-len1-len1
returns-in-len1-len1 g c =
    let this = c.this-item.result in
    let that = c.that-item.result in
    let law = shares-one g.T.Ord.cmp this that in
    rw (sym c.spans.ensures.list
    ∙ one-list c.spans.result.now this (omega (arith, ltb-true, ltb-false)) c.this-item.is)
    (rw (sym c.spans-2.ensures.list
    ∙ one-list c.spans-2.result.now that (omega (arith, ltb-true, ltb-false)) c.that-item.is)
    (λ true. law.0 (c.shares_cut.ensures.0 true), λ is. c.shares_cut.ensures.1 (law.1 is)))

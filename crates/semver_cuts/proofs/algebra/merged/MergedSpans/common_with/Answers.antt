use Rattle.std.proofs.Common.{◌≡◌, ◌++◌, [], arith, subst, sym, ◌∙◌}
use Rattle.std.specs.Result.{OnOk}
use Rattle.std.proofs.lemmas.Bool.{ltb-false, ltb-true}
use Rattle.std.proofs.lemmas.List.{append-nil}
use Rattle.semver_cuts.specs.CommonSpans.{common_of}
use Rattle.semver_cuts.proofs.Walks.{one-list}
use Rattle.semver_cuts.proofs.algebra.merged.MergedSpans.common_with.Goals as goal

pub returns-in-len1-len1 : goal.returns-in-len1-len1
returns-in-len1-len1 g c =
    let this = c.this-item.result in
    let that = c.that-item.result in
    let common = common_of g.T.Ord.cmp this that in
    record {
      spans = rw (one-list c.args.ones.now this (omega (arith, ltb-true, ltb-false)) c.this-item.is)
          (rw (sym c.spans-others.ensures.list
          ∙ one-list c.spans-others.result.now that (omega (arith, ltb-true, ltb-false)) c.that-item.is)
          (subst (λ l. OnOk c.common_of.result (g.S.Gather.gathered c.common_of.new.into
          ≡ g.S.Gather.gathered c.args.into.now ++ l)) (sym (append-nil common) ∙ sym (append-nil (common ++ [])))
          c.common_of.ensures));
    }

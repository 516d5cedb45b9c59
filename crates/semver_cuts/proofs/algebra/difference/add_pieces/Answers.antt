use Rattle.std.proofs.lemmas.Grind.{common_steps}
use native.Mathlib.Omega.{arith}
use Rattle.std.proofs.Common.{List, [], ◌∷◌, ◌++◌, ◌+◌, ◌<◌, ◌≤◌, append_assoc, ap, drop, inl, inr, refl, subst, sym}
use Rattle.std.proofs.Common.{◌∙◌}
use Rattle.std.proofs.lemmas.List.{append-nil, drop_all}
use Rattle.std.proofs.lemmas.Result.{on_ok_weaker}
use Rattle.semver_cuts.specs.Difference.{ArePieces}
use Rattle.std.specs.List.{AllByRecursion}
use Rattle.semver_cuts.specs.Ends.{Ends, IsCutAtMost, span_between}
use Rattle.semver_cuts.proofs.Differences.PiecesAlong.{added-by, walked-ended, walked-next, walked-past}
use Rattle.semver_cuts.proofs.Differences.PiecesAlong.{walked-stopped}
use Rattle.semver_cuts.proofs.Differences.PiecesFound.{walked-first}
use Rattle.semver_cuts.proofs.LoopSteps.{at_most-from_ge, below-from_not_ge}
use Rattle.semver_cuts.proofs.algebra.difference.add_pieces.Goals as goal
use Rattle.semver_cuts.proofs.algebra.difference.add_pieces.Goals.{then-lt+in_ok-gather, else-lt, else-loop-number-test}
use Rattle.semver_cuts.proofs.algebra.difference.add_pieces.Goals.{then-loop-number-test+then-ge}

pub loop-number-init : goal.loop-number-init
loop-number-init g c =
    grind (
      arith,
      common_steps,
      append-nil,
      walked-first g.met.T.Ord.total c.args.others.now.list
          c.args.others.now.merged c.len-number-end.ensures.joined
          (span_between c.ends.result.0.now c.ends.result.1.now)
          c.ends.ensures.rising c.first_above-number.result c.first_above-number.ensures,
    )

pub loop-number-preserved : goal.loop-number-preserved
loop-number-preserved g c =
    let loop = c.loop-number in
    let one = span_between c.ends.result.0.now c.ends.result.1.now in
    let span = span_between c.ends-in-loop-number.result.0.now c.ends-in-loop-number.result.1.now in
    let more = added-by g.met.T.Ord.total loop.low.now span.lower (g.S.Gather.gathered c.args.into.now)
    (g.S.Gather.gathered loop.into) (g.S.Gather.gathered c.if-lt.into) loop.invariant.done loop.invariant.gathered
    (elim c.if-lt.branch [
      | then-lt+in_ok-gather w ↦ inl (
        sym c.lt.ensures ∙ w.if-lt.true,
        (λ i. g.S.Gather.gathered (w.into-is i)) ∙ w.in_ok-gather.ensures,
      )
      | else-lt w ↦ inr (sym c.lt.ensures ∙ w.if-lt.false, λ i. g.S.Gather.gathered (w.into-is i))
    ]) in
    record {
      done = more.0;
      gathered = more.1;
      walked = walked-next g.met.T.Ord.total c.args.others.now.list one loop.low.now span _
          (drop (loop.number + 1) c.args.others.now.merged) loop.invariant.done loop.invariant.walked
          c.ends-in-loop-number.ensures
          (below-from_not_ge g.T.Ord.cmp span.lower one.upper (sym c.ge.ensures ∙ c.if-ge.false)) more.0 more.2
          (below-from_not_ge g.T.Ord.cmp span.upper one.upper (sym c.ge-in-loop-number.ensures ∙ c.if-ge-2.false));
    }

pub returns-then-ge-2 : goal.returns-then-ge-2
returns-then-ge-2 g c =
    let loop = c.loop-number in
    let others = c.args.others.now.list in
    let one = span_between c.ends.result.0.now c.ends.result.1.now in
    let span = span_between c.ends-in-loop-number.result.0.now c.ends-in-loop-number.result.1.now in
    let more = added-by g.met.T.Ord.total loop.low.now span.lower (g.S.Gather.gathered c.args.into.now)
    (g.S.Gather.gathered loop.into) (g.S.Gather.gathered c.if-lt.into) loop.invariant.done loop.invariant.gathered
    (elim c.if-lt.branch [
      | then-lt+in_ok-gather w ↦ inl (
        sym c.lt.ensures ∙ w.if-lt.true,
        (λ i. g.S.Gather.gathered (w.into-is i)) ∙ w.in_ok-gather.ensures,
      )
      | else-lt w ↦ inr (sym c.lt.ensures ∙ w.if-lt.false, λ i. g.S.Gather.gathered (w.into-is i))
    ]) in (
      more.0,
      subst (λ s. ArePieces g.T.Ord.cmp others s more.0) (sym c.ends.ensures.ends)
          (walked-ended g.met.T.Ord.total others one loop.low.now span _
          (drop (loop.number + 1) c.args.others.now.merged) loop.invariant.done loop.invariant.walked
          c.ends-in-loop-number.ensures
          (below-from_not_ge g.T.Ord.cmp span.lower one.upper (sym c.ge.ensures ∙ c.if-ge.false)) more.0 more.2
          (at_most-from_ge g.met.T.Ord.total span.upper one.upper (sym c.ge-in-loop-number.ensures ∙ c.if-ge-2.true))),
      more.1,
    )

pub gather-requires-2 : goal.gather-requires-2
gather-requires-2 g c κs = ((refl, tt), c.loop-number.invariant.walked.below)

pub returns : goal.returns
returns g c =
    let loop = c.loop-number in
    let others = c.args.others.now.list in
    let merged = c.args.others.now.merged in
    let one = span_between c.ends.result.0.now c.ends.result.1.now in
    let last : List (Ends g.row.T.Denot) = span_between loop.low.now one.upper ∷ [] in
    let pieces = loop.invariant.done ++ last in
    on_ok_weaker c.gather-2.result
    (λ more. (
      pieces,
      subst (λ s. ArePieces g.T.Ord.cmp others s pieces) (sym c.ends.ensures.ends) (elim c.loop-number-test.branch [
        | else-loop-number-test w ↦ walked-stopped g.met.T.Ord.total others one loop.low.now _ loop.invariant.done
            loop.invariant.walked (subst (AllByRecursion (λ s. IsCutAtMost g.T.Ord.cmp one.upper s.lower))
            (sym (drop_all loop.number merged
            (subst (λ n. n ≤ loop.number) c.len-number-end.ensures.length w.loop-number-test.false))) tt)
        | then-loop-number-test+then-ge w ↦
            let span = span_between w.ends-in-loop-number.result.0.now w.ends-in-loop-number.result.1.now in
            walked-past g.met.T.Ord.total others one loop.low.now span _ (drop (loop.number + 1) merged)
            loop.invariant.done loop.invariant.walked w.ends-in-loop-number.ensures
            (at_most-from_ge g.met.T.Ord.total span.lower one.upper (sym w.ge.ensures ∙ w.if-ge.true))
      ]),
      more ∙ ap (λ l. l ++ last) loop.invariant.gathered
          ∙ append_assoc (g.S.Gather.gathered c.args.into.now) loop.invariant.done last,
    ))
    c.gather-2.ensures

pub ends-requires-in-loop-number : goal.ends-requires-in-loop-number
ends-requires-in-loop-number g c =
    subst (λ n. c.loop-number.number < n) c.len-number-end.ensures.length c.loop-number-test.true

-- One dependency more.
use Rattle.std.proofs.Common.{inl, inr}
use Rattle.std.proofs.lemmas.List.{drop_all}
use Rattle.npm_packages.specs.Lemmas.FolderMaps.{passed}
use Rattle.npm_pick_reports.proofs.Elsewhere.{left_at}
use Rattle.npm_pick_reports.proofs.mirror.installed.elsewhere_of.Goals as goal

pub loop-edge-init : goal.loop-edge-init
loop-edge-init c = λ folder. (
  (λ among. inr among),
  (λ either. elim either [
    | inl has ↦ cc (rw c.new-folders.ensures.empty at has)
    | inr among ↦ among
  ]),
)

pub loop-edge-preserved : goal.loop-edge-preserved
loop-edge-preserved c = λ folder. passed (c.loop-edge.invariant folder)
    (left_at c.args.edges.now c.loop-edge.edge-index _ folder c.loop-edge-test.true) (c.in_ok-add_elsewhere.ensures folder)

pub returns : goal.returns
returns c = λ folder.
    let all = rw (drop_all c.loop-edge.edge-index c.args.edges.now c.loop-edge-test.false)
    at c.loop-edge.invariant folder in (
      (λ has. all.1 (inl has)),
      (λ found. elim (all.0 found) [
        | inl has ↦ has
        | inr never ↦ absurd never
      ]),
    )

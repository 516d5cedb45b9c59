-- A folder of the project is left out.
use Rattle.std.proofs.Common.{[], ◌∷◌, append-nil, refl, sym}
use Rattle.npm_pick.specs.Lemmas.Gathering.{pushed-seen}
use Rattle.npm_pick_reports.specs.Asks.{ask_value, asked, linked}
use Rattle.npm_pick_reports.proofs.Mirrors.{no_truth}
use Rattle.npm_pick_reports.proofs.mirror.asks.add_edge.Goals as goal

pub returns-then-is_linked : goal.returns-then-is_linked
returns-then-is_linked c = ([], linked (c.is_linked.ensures.0 c.if-is_linked.true), sym (append-nil _))

pub returns : goal.returns
returns c = (
  record { name = c.args.edge.now.name.now; spec = c.args.edge.now.spec.now; is_overridden = c.args.edge.now.is_overridden } ∷ [],
  asked (λ is. no_truth _ c.if-is_linked.false (c.is_linked.ensures.1 is)),
  pushed-seen ask_value _ _ _ _ c.in_ok-push.ensures.items refl,
)

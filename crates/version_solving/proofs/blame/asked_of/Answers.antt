use Rattle.std.proofs.Common.{Contains, false}
use Rattle.std.proofs.lemmas.List.Elements.{All-nil, All-push, Contains-get_or}
use Rattle.version_solving.specs.declared.demand.Demand.{Demand}
use Rattle.version_solving.proofs.blame.asked_of.Goals as goal
use Rattle.version_solving.proofs.blame.asked_of.Goals.{else-is_asked, in-Some+else-loop-place-test, in_default, then-is_asked+in_ok-push}

abbrev any : Demand
any = record { name = 0; range = 0; needed = false }

pub loop-place-preserved : goal.loop-place-preserved
loop-place-preserved c = elim c.if-is_asked.branch [
  | then-is_asked+in_ok-push w ↦ rw (w.demands-is, w.in_ok-push.ensures.items)
      (All-push (Contains c.args.root.now) c.loop-place.demands.items _ c.loop-place.invariant
      (Contains-get_or c.args.root.now c.loop-place.place any c.loop-place-test.true))
  | else-is_asked w ↦ rw w.demands-is c.loop-place.invariant
]

pub returns : goal.returns
returns c = elim c.match-last.branch [
  | in-Some+else-loop-place-test w ↦ rw w.demands-is w.loop-place.invariant
  | in_default w ↦ rw (w.demands-is, c.new-demands.ensures.items) (All-nil (Contains c.args.root.now))
]

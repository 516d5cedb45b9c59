-- What the candidates of one name more ask for.
use Rattle.std.proofs.Common.{◌∙◌, ◌++◌, ap}
use Rattle.std.proofs.lemmas.List.{take_all}
use Rattle.std.proofs.lemmas.List.Elements.{All-nil, All-same}
use Rattle.npm_resolve.specs.Instance.{HasNone}
use Rattle.npm_resolve.proofs.Naming.{listed_added}
use Rattle.npm_resolve.proofs.absent.absent_of.Goals as goal

pub loop-one-init : goal.loop-one-init
loop-one-init c =
    let asked = c.in_ok-add_all.ensures in (
      c.in_ok-names.names,
      c.in_ok-names.ensures,
      record { added = asked.added; list = asked.list; none = asked.none; fact = (asked.fact, All-nil _) },
    )

pub loop-one-preserved : goal.loop-one-preserved
loop-one-preserved c =
    let held = c.loop-one.invariant in (
      held.0,
      held.1,
      listed_added _ _ c.args.listed.now c.loop-one.one-index c.one-item.result _ _ _ c.loop-one-test.true
          c.one-item.is held.2 (rw c.deref.ensures.value at c.in_ok-add_askers.ensures),
    )

pub returns : goal.returns
returns c =
    let held = c.loop-one.invariant in
    let all = rw (take_all c.loop-one.one-index c.args.listed.now c.loop-one-test.false) at held.2.fact in record {
      none = All-same HasNone _ _ (held.2.list ∙ ap (λ old. old ++ held.2.added) held.1) held.2.none;
      of_root = all.0;
      of_candidates = all.1;
    }

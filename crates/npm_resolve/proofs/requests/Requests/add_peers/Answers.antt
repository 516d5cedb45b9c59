-- What one candidate more asks for.
use Rattle.std.proofs.Common.{◌++◌, List, [], ◌∷◌, map, refl}
use Rattle.std.proofs.lemmas.List.{take_all}
use Rattle.std.specs.List.{flat_map}
use Rattle.npm_resolve.specs.Asks.{AskValue, ask_value}
use Rattle.npm_resolve.proofs.Gathering.{none_added, peers_more}
use Rattle.npm_pick.specs.Lemmas.Zips.{item_more}
use Rattle.npm_resolve.specs.Documents.{IsPeer}
use Rattle.npm_resolve.specs.Rules.{rules_of}
use Rattle.npm_resolve.proofs.requests.Requests.add_peers.Goals as goal

pub loop-candidate-init : goal.loop-candidate-init
loop-candidate-init c = ([], tt, none_added _)

pub loop-candidate-preserved : goal.loop-candidate-preserved
loop-candidate-preserved c =
    let held = c.loop-candidate.invariant in
    let asks = map ask_value c.in_ok-found.found.asks.items in (
      held.0 ++ asks ∷ [],
      item_more (IsPeer c.args.reach (rules_of c.args.manifests.now) c.args.omits) c.deref-candidate-items.result.now held.0 c.loop-candidate.candidate-index c.candidate-item.result asks
          c.loop-candidate-test.true c.candidate-item.is held.1 (map ask_value c.in_ok-found.found.left_out.items, rw c.in_ok-rules.ensures at c.in_ok-found.ensures),
      peers_more held.0 asks _ _ _ held.2 (rw c.deref.ensures.value at c.in_ok-add_all.ensures),
    )

pub returns : goal.returns
returns c =
    let held = c.loop-candidate.invariant in (
      flat_map (λ (l : List AskValue). l) held.0,
      record {
        candidates = c.deref-candidate-items.result.now;
        are = rw c.deref-candidate-items.ensures.value c.in_ok-candidates_of.ensures;
        each = held.0;
        of_each = rw (take_all c.loop-candidate.candidate-index c.deref-candidate-items.result.now c.loop-candidate-test.false) at held.1;
        all = refl;
      },
      held.2,
    )

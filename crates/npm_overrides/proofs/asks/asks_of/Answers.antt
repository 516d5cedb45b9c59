-- The ask by a name comes before those by the names that are left.
use Rattle.std.proofs.Common.{◌≡◌, ◌∙◌, ◌++◌, ◌∷◌, [], ap, append_assoc, append-nil, map, not, refl, sym}
use Rattle.std.proofs.lemmas.List.{map-append}
use Rattle.serde_json.specs.View.{view}
use Rattle.npm_packages.specs.Lemmas.NameLists.{all_asked, are_names, names_of}
use Rattle.npm_packages.specs.PackageValue.{asked_value}
use Rattle.npm_overrides.specs.Asks.{ask_value, is_top}
use Rattle.npm_overrides.specs.Rules.{rule_value}
use Rattle.npm_overrides.proofs.Asked.{is_ask}
use Rattle.npm_overrides.proofs.asks.asks_of.Goals as goal

pub loop-name-init : goal.loop-name-init
loop-name-init c =
    let entries : c.into_iter-name-iterator.result ≡ c.in_ok-all.all.entries = cc in
    record {
      asked = rw entries (all_asked (view c.args.manifest.now) (not (is_top c.args.owner)) c.in_ok-all.all
          c.iter-name-items.ensures.ordered (rw c.is_top.ensures at c.in_ok-all.ensures));
      found = λ later are. (later, are, refl);
    }

pub loop-name-preserved : goal.loop-name-preserved
loop-name-preserved c =
    let asked = rw c.in-Some.ensures.steps at c.loop-name.invariant.asked in
    let here = ask_value c.in_ok-ask.ask in
    let pushed : map ask_value c.push.new.self.items ≡ map ask_value c.loop-name.asks.items ++ (here ∷ []) =
    ap (map ask_value) c.in_ok-push.ensures.items ∙ map-append ask_value c.loop-name.asks.items _ in
    record {
      asked = asked.1;
      found = λ later are.
          let all = c.loop-name.invariant.found (here ∷ later)
          (rw c.in-Some.ensures.steps (
            is_ask (view c.args.manifest.now) c.args.owner (map rule_value c.args.rules.now.list.items)
                c.args.counts c.args.peers_count c.in-Some.name.now.now (asked_value c.in-Some.asked.now) here asked.0 c.in_ok-ask.ensures,
            are,
          ))
          in (
            all.0,
            all.1,
            ap (λ made. made ++ later) pushed ∙ append_assoc (map ask_value c.loop-name.asks.items) (here ∷ []) later
                ∙ all.2,
          );
    }

pub returns : goal.returns
returns c =
    let entries : c.into_iter-name-iterator.result ≡ c.in_ok-all.all.entries = cc in
    let all = c.loop-name.invariant.found [] (rw c.in-None.ensures.steps.0 tt) in
    let same : map ask_value c.loop-name.asks.items ≡ all.0 = sym (append-nil (map ask_value c.loop-name.asks.items)) ∙ all.2
    ∙ ap (λ items. map ask_value items ++ all.0) c.new-asks.ensures.items in
    record {
      names = names_of c.in_ok-all.all.entries;
      are_names = are_names (view c.args.manifest.now) (not (is_top c.args.owner)) c.in_ok-all.all
          c.iter-name-items.ensures.ordered (rw c.is_top.ensures at c.in_ok-all.ensures);
      each = rw same (rw entries at all.1);
    }

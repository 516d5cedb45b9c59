-- What is asked of a name comes before what is asked of those that are left.
use Rattle.std.proofs.Common.{◌≡◌, ◌∙◌, [], not, ap, append_assoc, append-nil, refl, sym}
use Rattle.std.specs.Option.{option_map_or}
use Rattle.serde_json.specs.View.{view}
use Rattle.npm_packages.specs.Lemmas.NameLists.{all_asked, are_names, names_of}
use Rattle.npm_packages.specs.Overrides.{changed_by}
use Rattle.npm_packages.specs.PackageValue.{asked_value}
use Rattle.npm_packages.specs.Rules.{rule_at}
use Rattle.npm_resolve.specs.Asks.{asks_by, asks_on, is_root}
use Rattle.npm_resolve.proofs.candidates.asks.all_asks.Goals as goal

pub loop-name-init : goal.loop-name-init
loop-name-init c =
    let entries : c.into_iter-name-iterator.result ≡ c.in_ok-all.all.entries = cc in
    record {
      asked = rw entries (all_asked (view c.args.manifest.now) (not (is_root c.args.owner)) c.in_ok-all.all
          c.iter-name-items.ensures.ordered (rw c.is_root.ensures at c.in_ok-all.ensures));
      found = rw c.new-asks.ensures.items refl;
    }

pub loop-name-preserved : goal.loop-name-preserved
loop-name-preserved c =
    let asked = rw c.in-Some.ensures.steps at c.loop-name.invariant.asked in
    let found = rw c.in-Some.ensures.steps at c.loop-name.invariant.found in
    let rules = rule_at c.args.rules.now in
    let name = c.in-Some.name.now.now in
    let here : asks_on (view c.args.manifest.now) c.args.owner rules c.args.omits name
    ≡ asks_by c.args.owner c.args.omits name (asked_value c.overridden-changed.result) =
    ap (λ o. option_map_or (λ one. asks_by c.args.owner c.args.omits name (changed_by (rules name) [] one)) o []) asked.0
    ∙ ap (asks_by c.args.owner c.args.omits name) (sym c.overridden-changed.ensures) in
    record {
      asked = asked.1;
      found = rw (c.in_ok-add_ask.ensures, append_assoc) (rw here at found);
    }

pub returns : goal.returns
returns c =
    let entries : c.into_iter-name-iterator.result ≡ c.in_ok-all.all.entries = cc in
    record {
      names = names_of c.in_ok-all.all.entries;
      are_names = are_names (view c.args.manifest.now) (not (is_root c.args.owner)) c.in_ok-all.all
          c.iter-name-items.ensures.ordered (rw c.is_root.ensures at c.in_ok-all.ensures);
      found = rw entries at (rw (c.in-None.ensures.steps.0, append-nil) at c.loop-name.invariant.found);
    }

-- One dependency more, which is asked for or not.
use Rattle.std.proofs.Common.{◌≡◌}
use Rattle.serde_json.specs.View.{view}
use Rattle.npm_packages.specs.Lemmas.NameLists.{all_asked, are_names, names_of}
use Rattle.npm_packages.specs.PackageValue.{asked_value}
use Rattle.npm_resolve.specs.Reached.{Asks, leads}
use Rattle.npm_resolve.proofs.Reaching.{all_added, all_left, name_read, no_asks}
use Rattle.npm_resolve.proofs.flat_locks.reached.Reached.add_dependencies.Goals as goal

pub loop-name-init : goal.loop-name-init
loop-name-init c =
    let entries : c.into_iter-name-iterator.result ≡ c.in_ok-all.all.entries = cc in
    record {
      asked = rw entries (all_asked (view c.args.asker.now) c.args.is_installed c.in_ok-all.all
          c.iter-name-items.ensures.ordered c.in_ok-all.ensures);
      begun = rw entries (all_left (view c.args.asker.now) c.args.is_installed c.args.groups (names_of c.in_ok-all.all.entries) _
          (are_names (view c.args.asker.now) c.args.is_installed c.in_ok-all.all c.iter-name-items.ensures.ordered c.in_ok-all.ensures));
    }

pub loop-name-preserved : goal.loop-name-preserved
loop-name-preserved c =
    let asked = rw c.in-Some.ensures.steps at c.loop-name.invariant.asked in
    let begun = rw c.in-Some.ensures.steps at c.loop-name.invariant.begun in
    let value = asked_value c.in-Some.asked.now in
    record {
      asked = asked.1;
      begun = name_read (Asks (view c.args.asker.now) c.args.is_installed c.args.groups) c.in-Some.name.now.now _ _ _ _ begun
          (leads c.args.groups value)
          (λ yes. record { asked = value; there = asked.0; leading = yes })
          (no_asks (view c.args.asker.now) c.args.is_installed c.args.groups c.in-Some.name.now.now value asked.0)
          (rw c.leads.ensures at c.in_ok-add_if.ensures);
    }

pub returns : goal.returns
returns c = all_added (Asks (view c.args.asker.now) c.args.is_installed c.args.groups) _ _
    (rw c.in-None.ensures.steps.0 at c.loop-name.invariant.begun)

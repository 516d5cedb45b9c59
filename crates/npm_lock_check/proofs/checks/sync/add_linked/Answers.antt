-- One manifest more, or the first that is refused.
use Rattle.std.proofs.Common.{◌≡◌, ◌∙◌, ◌++◌, [], append-nil, drop, map, refl, rules, sym}
use Rattle.std.proofs.lemmas.List.{drop_all}
use Rattle.serde_json.specs.View.{view}
use Rattle.npm_manifest_files.specs.Linked.{linked_value}
use Rattle.npm_lock_check.specs.Report.{AreAllMismatches}
use Rattle.npm_lock_check.proofs.LinkedManifests.{fault_passed, first_refused, mismatches_more}
use Rattle.npm_lock_check.proofs.checks.sync.add_linked.Goals as goal

pub returns-in-Err-clause-refused : goal.returns-in-Err-clause-refused
returns-in-Err-clause-refused c =
    first_refused c.args.linked.now c.loop-one.one-index c.one-item.result c.loop-one-test.true c.one-item.is
    c.in-Err.error c.loop-one.invariant.sound c.in-Err.ensures.refused

pub loop-one-preserved : goal.loop-one-preserved
loop-one-preserved c =
    let more : c.append.new.self.items ≡ c.loop-one.all.items ++ c.in-Ok.list.items = search rules in
    record {
      found = mismatches_more c.args.linked.now c.loop-one.one-index c.one-item.result c.loop-one-test.true
          c.one-item.is (view c.args.lock.now) c.loop-one.all.items c.append.new.self.items c.args.all.now.items
          c.in-Ok.list.items c.in-Ok.ensures.found more c.loop-one.invariant.found;
      sound = c.loop-one.invariant.sound ∙ fault_passed c.args.linked.now c.loop-one.one-index c.one-item.result
          c.loop-one-test.true c.one-item.is c.in-Ok.ensures.sound;
    }

pub returns-clause-found : goal.returns-clause-found
returns-clause-found c =
    let gone : drop c.loop-one.one-index c.args.linked.now ≡ [] =
    drop_all c.loop-one.one-index c.args.linked.now c.loop-one-test.false in
    let ended : AreAllMismatches (view c.args.lock.now)
    (map linked_value (drop c.loop-one.one-index c.args.linked.now)) [] = rw gone refl in
    let made = c.loop-one.invariant.found [] ended in
    (made.0, made.1, sym (append-nil c.loop-one.all.items) ∙ made.2)

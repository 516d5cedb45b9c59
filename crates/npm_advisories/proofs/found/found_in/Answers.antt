-- One package more is hit, or not.
use Rattle.std.proofs.Common.{◌∙◌, ap}
use Rattle.std.proofs.lemmas.List.{take_all}
use Rattle.npm_advisories.specs.Audit.{none}
use Rattle.npm_advisories.proofs.Auditing.{among-at, next-hit, next-spared}
use Rattle.npm_advisories.proofs.found.found_in.Goals as goal
use Rattle.npm_advisories.proofs.found.found_in.Goals.{in-Some+in_ok-push, in_default}

pub loop-one-init : goal.loop-one-init
loop-one-init c = record {
  unions = c.new-unions.ensures c.args.index.now;
  found = λ values is. rw c.new-all.ensures.items none;
}

pub loop-one-preserved : goal.loop-one-preserved
loop-one-preserved c = record {
  unions = c.in_ok-add.ensures.all c.loop-one.invariant.unions;
  found = λ values is.
      let one = c.one-item.result in
      let among = among-at c.args.installed.now c.loop-one.one-index one c.loop-one-test.true c.one-item.is in
      let here = c.in_ok-found.ensures values (is one.name.now among) in
      let before = c.loop-one.invariant.found values is in
      elim c.match-branch-3.branch [
        | in-Some+in_ok-push w ↦
            next-hit c.args.level values c.args.installed.now c.loop-one.one-index one c.loop-one-test.true
            c.one-item.is c.loop-one.all.items c.match-branch-3.all.items w.in-Some.found
            (ap (λ v. v.items) w.all-is ∙ w.in_ok-push.ensures.items) before (rw w.in-Some.is at here)
        | in_default w ↦
            next-spared c.args.level values c.args.installed.now c.loop-one.one-index one c.loop-one-test.true
            c.one-item.is c.loop-one.all.items c.match-branch-3.all.items (ap (λ v. v.items) w.all-is) before
            (rw w.in_default.is at here)
      ];
}

pub found_of-requires : goal.found_of-requires
found_of-requires c = c.in_ok-add.ensures.here c.loop-one.invariant.unions

pub returns : goal.returns
returns c = λ values is.
    let all = c.loop-one.invariant.found values is in
    rw (take_all c.loop-one.one-index c.args.installed.now c.loop-one-test.false) at all

-- The first part decides, or those after it.
use Rattle.std.proofs.Common.{arith, refl, rules}
use Rattle.std.proofs.lemmas.Str.Pattern.{split_parts}
use Rattle.npm_packages.proofs.Steps.{ended, passed, stopped}
use Rattle.npm_packages.proofs.folder.are_steps.Goals as goal

pub parts-init : goal.parts-init
parts-init c = record { text = search rules; same = refl }

pub parts-preserved : goal.parts-preserved
parts-preserved c =
    let split = split_parts 47 c.parts.left.now c.split_once.result c.split_once.ensures.cases (omega arith) in
    let parts = rw c.in-Some.is at split in
    record {
      text = search rules;
      same = passed c.parts.is_up c.parts.left.now _ c.parts.invariant.same c.in-Some.part.now c.in-Some.rest.now parts.0
          parts.1 c.leads_up-is_up.result c.is_right.result c.leads_up-is_up.ensures c.is_right.ensures c.if-not-is_right.false;
    }

pub returns-then-not-is_right : goal.returns-then-not-is_right
returns-then-not-is_right c =
    let split = split_parts 47 c.parts.left.now c.split_once.result c.split_once.ensures.cases (omega arith) in
    let parts = rw c.in-Some.is at split in
    stopped c.parts.is_up c.parts.left.now _ c.parts.invariant.same c.in-Some.part.now c.in-Some.rest.now parts.0 parts.1
    c.is_right.result c.is_right.ensures c.if-not-is_right.true

pub returns : goal.returns
returns c =
    let split = split_parts 47 c.parts.left.now c.split_once.result c.split_once.ensures.cases (omega arith) in
    ended c.parts.is_up c.parts.left.now _ c.parts.invariant.same (rw c.in_default.is at split) c.is_last.result
    c.is_last.ensures

-- Where a release is free of all advisories, none of them is about each; else each is looked at.
use Rattle.std.proofs.Common.{◌≡◌, ◌∙◌, ◌+◌, ◌++◌, ◌∷◌, [], ap, arith, map, subst, sym}
use Rattle.std.proofs.lemmas.List.{map-append}
use Rattle.npm_advisories.specs.Advisories.{AboutValue, about_value}
use Rattle.npm_advisories.specs.Private.Spans.{IsOfEach}
use Rattle.npm_advisories.specs.declared.advisory.Advisory.{Advisory}
use Rattle.npm_advisories.proofs.EachRelease.{IsFoundTo, all-found, none-each, none-found, one-found}
use Rattle.npm_advisories.proofs.each.about_each.Goals as goal
use Rattle.npm_advisories.proofs.each.about_each.Goals.{then-branch+in_ok-push, else-branch}

abbrev seen : Advisory → AboutValue
seen advisory = about_value advisory.about

pub returns-then-not-have_each : goal.returns-then-not-have_each
returns-then-not-have_each c = rw c.new-each.ensures.items (none-each c.args.advisories.now c.args.covered.now c.requires
    (λ each. let no = (rw (c.have_each.ensures.1 each) at c.if-not-have_each.true) in absurd (cc no)))

pub loop-advisory-preserved : goal.loop-advisory-preserved
loop-advisory-preserved c =
    let i = c.loop-advisory.advisory-index in
    let one = c.advisory-item.result in
    let before = map about_value c.loop-advisory.each.items in
    elim c.if-branch.branch [
      | then-branch+in_ok-push w ↦
          let more : map about_value c.if-branch.each.items ≡ before ++ (seen one ∷ []) =
          ap (λ v. map about_value v.items) w.each-is ∙ ap (map about_value) w.in_ok-push.ensures.items
          ∙ map-append about_value c.loop-advisory.each.items (one.about ∷ []) in
          subst (IsFoundTo IsOfEach seen c.args.advisories.now (i + 1)) (sym more)
          (one-found IsOfEach seen c.args.advisories.now i one c.loop-advisory-test.true c.advisory-item.is before
          c.loop-advisory.invariant (c.in_ok-is_of_each.ensures.0 w.if-branch.true))
      | else-branch w ↦
          subst (IsFoundTo IsOfEach seen c.args.advisories.now (i + 1)) (sym (ap (λ v. map about_value v.items) w.each-is))
          (none-found IsOfEach seen c.args.advisories.now i one c.loop-advisory-test.true c.advisory-item.is before
          c.loop-advisory.invariant (λ each. let no = c.in_ok-is_of_each.ensures.1 each in absurd (cc (no, w.if-branch.false))))
    ]

pub returns : goal.returns
returns c = all-found IsOfEach seen c.args.advisories.now c.loop-advisory.advisory-index (map about_value c.loop-advisory.each.items)
    (omega (arith, c.loop-advisory-test.false)) c.loop-advisory.invariant

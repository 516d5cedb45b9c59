use Rattle.std.proofs.Common.{◌≡◌, sym, ap, ◌∙◌, subst}
use Rattle.node_semver.specs.RangeAlgebra.{sets_of_answer}
use Rattle.node_semver.specs.SetTree.{AreSetsOfTree, both, formula_of, of_text, without}
use Rattle.node_semver.proofs.Sets.TreeAnswers.{answered}
use Rattle.node_semver.proofs.Sets.TreeSets.{HasSetsOf, both-sets, without-sets}
use Rattle.node_semver.proofs.tree.SetTree.+evaluate.Goals as goal

pub returns-in-Text : goal.returns-in-Text
returns-in-Text t c =
    let tree = formula_of c.args.self.now in
    let found = c.range_of.result in
    let same : of_text c.as_str.result.now ≡ tree =
    ap of_text c.as_str.ensures.value ∙ ap formula_of (sym c.in-Text.is) in
    answered c.every_range_text_is_written_one_way.ensures.only tree found
    (subst (λ f. HasSetsOf f found) same c.range_of.ensures.sets) c.range_of.ensures.holds

pub returns-in_ok-evaluate-in-Some : goal.returns-in_ok-evaluate-in-Some
returns-in_ok-evaluate-in-Some t c =
    let tree = formula_of c.args.self.now in
    let one = formula_of c.deref.result.now in
    let other = formula_of c.deref-in-Some.result.now in
    let found = c.common.result in
    let others = sets_of_answer c.in_ok-evaluate-in-Some.field-0 in
    let same : tree ≡ both one other = cc (c.in-Both.is, c.deref.ensures, c.deref-in-Some.ensures) in
    let has = subst (λ answer. AreSetsOfTree one (sets_of_answer answer)) c.in-Some.is
    c.in_ok-one-in-Both.ensures.sets in
    answered c.every_range_text_is_written_one_way.ensures.only tree found
    (both-sets tree one other c.in-Some.one others found same has
    c.in_ok-evaluate-in-Some.ensures.sets c.common.ensures.sets) c.common.ensures.holds

pub returns-in_ok-evaluate-in-Some-2 : goal.returns-in_ok-evaluate-in-Some-2
returns-in_ok-evaluate-in-Some-2 t c =
    let tree = formula_of c.args.self.now in
    let one = formula_of c.deref-in-Without.result.now in
    let other = formula_of c.deref-in-Some-2.result.now in
    let found = c.difference.result in
    let others = sets_of_answer c.in_ok-evaluate-in-Some-2.field-0 in
    let same : tree ≡ without one other =
    cc (c.in-Without.is, c.deref-in-Without.ensures, c.deref-in-Some-2.ensures) in
    let has = subst (λ answer. AreSetsOfTree one (sets_of_answer answer)) c.in-Some-2.is
    c.in_ok-one-in-Without.ensures.sets in
    answered c.every_range_text_is_written_one_way.ensures.only tree found
    (without-sets tree one other c.in-Some-2.one others found same has
    c.in_ok-evaluate-in-Some-2.ensures.sets c.difference.ensures.sets) c.difference.ensures.holds

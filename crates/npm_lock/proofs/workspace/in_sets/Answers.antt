-- One pattern more is in the sets.
use Rattle.std.proofs.Common.{◌∙◌, inl, inr, sym}
use Rattle.std.proofs.Math.ListN.{drop_of_length-le}
use Rattle.serde_json.specs.View.{items_view, view}
use Rattle.npm_lock.specs.Private.PatternSteps as PatternSteps
use Rattle.npm_lock.proofs.PatternLists.{all_read, by_sets, items_from, one_added}
use Rattle.npm_lock.proofs.Globs.Lists.{literal_read}
use Rattle.npm_lock.proofs.StarPatterns.{either_true}
use Rattle.npm_lock.proofs.workspace.in_sets.Goals as goal

pub loop-pattern-init : goal.loop-pattern-init
loop-pattern-init c = record {
  unread = c.if-made.false;
  read = sym c.has_unknown.ensures ∙ c.if-made.false;
  matched = λ folder. (
    (λ either. elim either [
      | inl has ↦ absurd (c.none-made.ensures.matched folder has)
      | inr all ↦ all
    ]),
    (λ all. inr all),
  );
}

pub loop-pattern-preserved : goal.loop-pattern-preserved
loop-pattern-preserved c =
    let here = items_from c.args.patterns.now c.loop-pattern.pattern-index c.pattern-item.result c.loop-pattern-test.true
    c.pattern-item.is in
    let read = all_read (PatternSteps.is_such PatternSteps.is_literal (view c.pattern-item.result)) _
    (rw here at c.loop-pattern.invariant.read) in
    record {
      unread = c.add_pattern.ensures.unread ∙ c.loop-pattern.invariant.unread;
      read = read.1;
      matched = λ folder. one_added (c.in_ok-add_pattern.ensures.matched (literal_read (view c.pattern-item.result) read.0) folder)
          (either_true (PatternSteps.is_such (PatternSteps.is_matched folder) (view c.pattern-item.result)) _)
          (rw here at c.loop-pattern.invariant.matched folder);
    }

pub returns : goal.returns
returns c = λ folder found said.
    let none = drop_of_length-le c.args.patterns.now c.loop-pattern-test.false in
    let all = rw none at c.loop-pattern.invariant.matched folder in
    by_sets c.loop-pattern.made folder (items_view c.args.patterns.now) (sym c.has_unknown.ensures ∙ c.if-made.false) (
      (λ has. all.0 (inl has)),
      (λ is. elim (all.1 is) [
        | inl has ↦ has
        | inr never ↦ cc never
      ]),
    ) c.loop-pattern.invariant.unread found said

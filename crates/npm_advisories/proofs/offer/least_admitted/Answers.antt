-- Text after text.
use Rattle.std.proofs.Common.{ℕ, List, [], get_or}
use denote.Ref.{Bor}
use Rattle.npm_advisories.proofs.Offering.{asked-first, asked-free, asked-next, none-asked, same-at}
use Rattle.npm_advisories.proofs.Results.{same-offer}
use Rattle.npm_advisories.proofs.offer.least_admitted.Goals as goal

pub loop-text-init : goal.loop-text-init
loop-text-init c = rw c.new-outside.ensures.items (record {
  holds = tt;
  exact = asked-first (λ text. text.now) c.args.asked.now;
})

pub returns-then-not-branch : goal.returns-then-not-branch
returns-then-not-branch c =
    let one : Bor (List ℕ) =
    get_or c.args.asked.now c.loop-text.text-index (record { ref_ptr = (0, 0); now = [] }) in
    none-asked (λ text. text.now) c.args.asked.now c.args.covered.now c.args.from c.loop-text.text-index one
    c.loop-text-test.true (same-at c.args.asked.now c.loop-text.text-index _ one c.loop-text-test.true)
    (rw c.if-not-branch.true at c.in_ok-add_outside.ensures.none)

pub loop-text-preserved : goal.loop-text-preserved
loop-text-preserved c =
    let one : Bor (List ℕ) =
    get_or c.args.asked.now c.loop-text.text-index (record { ref_ptr = (0, 0); now = [] }) in
    record {
      holds = c.in_ok-add_outside.ensures.holds;
      exact = asked-next (λ text. text.now) c.args.asked.now c.loop-text.outside.items
          c.add_outside.new.spans.items c.loop-text.text-index one c.loop-text-test.true
          (same-at c.args.asked.now c.loop-text.text-index _ one c.loop-text-test.true) c.loop-text.invariant.exact
          (rw c.if-not-branch.false at c.in_ok-add_outside.ensures.range);
    }

pub returns : goal.returns
returns c =
    same-offer (asked-free (λ text. text.now) c.args.asked.now c.args.covered.now c.args.from c.loop-text.outside.items
    c.in_ok-unasked.unasked.items (rw c.deref.ensures.value at c.in_ok-unasked.ensures) c.loop-text.text-index
    c.loop-text-test.false c.loop-text.invariant.exact) c.least_free_of_both.result
    (rw c.deref-2.ensures.value at c.least_free_of_both.ensures)

-- One text more admits the version.
use Rattle.std.proofs.Common.{[], ℕ, List, get_or, refl}
use denote.Ref.{Bor}
use Rattle.npm_advisories.proofs.Offering.{asked-all, asked-more, same-at}
use Rattle.npm_advisories.proofs.offer.is_asked_by_all.Goals as goal

pub returns-then-not-branch : goal.returns-then-not-branch
returns-then-not-branch c = λ never. cc never

pub loop-text-preserved : goal.loop-text-preserved
loop-text-preserved c =
    let one : Bor (List ℕ) =
    get_or c.args.asked.now c.loop-text.text-index (record { ref_ptr = (0, 0); now = [] }) in
    (asked-more (λ text. text.now) c.args.asked.now c.args.version.now c.loop-text.text-index one c.loop-text-test.true
    (same-at c.args.asked.now c.loop-text.text-index _ one c.loop-text-test.true)).0
    (c.loop-text.invariant, (rw c.if-not-branch.false at c.in_ok-is_asked_by.ensures) refl)

pub returns : goal.returns
returns c = λ yes. rw (asked-all (λ text. text.now) c.args.asked.now c.args.version.now c.loop-text.text-index
    c.loop-text-test.false) at c.loop-text.invariant

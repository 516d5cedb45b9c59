-- The releases of its sets are its own.
use Rattle.npm_advisories.proofs.EachRelease.{of-each-by}
use Rattle.npm_advisories.proofs.each.is_of_each.Goals as goal

pub returns : goal.returns
returns c =
    let both = of-each-by c.args.advisory.now c.in_ok-sets.sets.items c.in_ok-covered.covered.items c.in_ok-sets.ensures.sets
    (rw c.deref.ensures.value at c.in_ok-covered.ensures) in
    let have = rw c.deref-2.ensures.value at c.have_each.ensures in
    (λ yes. both.0 (have.0 yes), λ each. have.1 (both.1 each))

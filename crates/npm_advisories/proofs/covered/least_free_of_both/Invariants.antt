-- The next release is past the others so far.
use Rattle.npm_advisories.proofs.FreeReleases.{IsNext}
use Rattle.npm_advisories.proofs.covered.least_free_of_both.Given as goal

abbrev pub invariant-loop-other : goal.invariant-loop-other
invariant-loop-other l = IsNext l.covered l.others l.fn.from l.other-index l.next

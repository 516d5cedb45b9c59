-- The halves, the releases that the sets contain, and the advisories about each.
use Rattle.npm_advisories.specs.Private.Spans.{IsInRange}
use Rattle.npm_advisories.proofs.Covering.{covered-have}
use Rattle.npm_advisories.proofs.unions.Union.of.Goals as goal

pub about_each-requires : goal.about_each-requires
about_each-requires c = rw c.deref-2.ensures.value (covered-have (IsInRange c.args.advisories.now) c.in_ok-sets.sets.items
    c.in_ok-covered.covered.items c.in_ok-sets.ensures (rw c.deref.ensures.value at c.in_ok-covered.ensures))

pub returns : goal.returns
returns c = record {
  halves = c.in_ok-halves.ensures;
  covered = covered-have (IsInRange c.args.advisories.now) c.in_ok-sets.sets.items c.in_ok-covered.covered.items
      c.in_ok-sets.ensures (rw c.deref.ensures.value at c.in_ok-covered.ensures);
  each = c.in_ok-each.ensures;
}

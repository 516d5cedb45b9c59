-- Each part was tested.
use Rattle.npm_trees.proofs.checking.check.Goals as goal

pub returns-then-not-met : goal.returns-then-not-met
returns-then-not-met c =
    let told = rw (c.as_slice-places.ensures.value, c.as_slice-asks.ensures.value) at c.in_ok-met.ensures in
    λ all. absurd (cc (told.1 all, c.if-not-met.true))

pub returns : goal.returns
returns c = record {
  whole =
      let by = rw (c.in-Some.is, c.as_slice-places.ensures.value, c.as_slice-asks.ensures.value) at c.in_ok-folders.ensures in by.whole;
  met =
      let told = rw (c.as_slice-places.ensures.value, c.as_slice-asks.ensures.value) at c.in_ok-met.ensures in told.0 c.if-not-met.false;
  reached =
      let told = rw (c.as_slice-places.ensures.value, c.as_slice-asks.ensures.value) at c.in_ok-reached.ensures in
      told.0 c.if-not-reached.false;
  left_out =
      let told = rw (c.as_slice-places.ensures.value, c.as_slice-asks.ensures.value, c.deref.ensures.value) at c.in_ok-told.ensures in
      told.0 c.if-not-told.false;
}

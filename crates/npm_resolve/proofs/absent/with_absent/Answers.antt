-- The others are behind the list.
use Rattle.npm_resolve.proofs.absent.with_absent.Goals as goal

pub returns : goal.returns
returns c = (
  c.in_ok-absent.absent.items,
  rw c.deref.ensures.value at c.in_ok-absent.ensures,
  c.in_ok-append.ensures.items,
  rw (c.deref-2.ensures.value, c.deref-3.ensures.value) at c.in_ok-missing.ensures,
)

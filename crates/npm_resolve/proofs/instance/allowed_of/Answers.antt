-- The candidates that the meaning of the spec admits are allowed.
use Rattle.npm_resolve.proofs.instance.allowed_of.Goals as goal

pub returns : goal.returns
returns c = record {
  meaning = c.in_ok-meaning.ensures.0;
  is = c.in_ok-meaning.ensures.1;
  each = rw c.deref.ensures.value at (c.in_ok-allowed.ensures c.in_ok-meaning.ensures.0 c.in_ok-meaning.ensures.2);
}

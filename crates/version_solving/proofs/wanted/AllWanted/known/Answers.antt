-- What is found was compared.
use Rattle.std.proofs.Common.{sym}
use Rattle.std.proofs.lemmas.Slice.Eq.{bytes_eq-Decides}
use Rattle.version_solving.proofs.Grown.{item_there}
use Rattle.version_solving.proofs.wanted.AllWanted.known.Goals as goal

pub returns-then-eq : goal.returns-then-eq
returns-then-eq c = record {
  wanted = c.in_ok-found.found.now;
  there = item_there c.args.self.now.list.items c.in_ok-number.field-0.now c.in_ok-found.found.now
      (rw c.deref.ensures.value at c.in_ok-found.ensures.lookup.3.0) (rw c.deref.ensures.value at c.in_ok-found.ensures.lookup.1);
  of_name = c.if-found-wanted.true;
  of_spec = (bytes_eq-Decides c.in_ok-found.found.now.spec.now c.args.wanted.spec.now).0 (sym c.if-eq.ensures);
}

-- What the manifests ask for is added to no requests.
use Rattle.std.proofs.Common.{map}
use Rattle.npm_resolve.specs.Asks.{ask_value}
use Rattle.npm_resolve.proofs.documents.first_requests.Goals as goal

pub returns : goal.returns
returns c = record {
  wishes = map ask_value c.in_ok-wishes.wishes.asks.items;
  left_out = map ask_value c.in_ok-wishes.wishes.left_out.items;
  of_root = rw c.in_ok-rules.ensures at c.in_ok-wishes.ensures;
  start = c.new-requests.result;
  empty = c.new-requests.ensures.queue;
  unseen = c.new-requests.ensures.seen;
  added = rw c.deref.ensures.value at c.in_ok-add_all.ensures;
}

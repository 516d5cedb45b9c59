-- The first requests are those of the manifests, one request more is answered, and none waits at the end.
use Rattle.std.proofs.Common.{◌≡◌, ◌∙◌, [], refl}
use Rattle.std.specs.Fn.{FnReturnsAt}
use Rattle.npm_resolve.proofs.Gathering.{all_read, begins, gathered_more, nothing_left}
use Rattle.npm_resolve.specs.Documents.{all_asked}
use Rattle.npm_resolve.specs.Rules.{rules_of}
use Rattle.npm_resolve.proofs.documents.documents_for.Goals as goal

pub loop-init : goal.loop-init
loop-init g c =
    let begun = c.in-Ok.ensures in (
      begun.wishes,
      begun.left_out,
      begun.of_root,
      rw c.new-documents.ensures.items (begins (FnReturnsAt g.F.Fn c.args.load)
          c.args.options.now c.args.reach (rules_of c.args.manifests.now) c.args.omits begun.wishes begun.start c.in-Ok.requests begun.empty begun.unseen begun.added),
    )

pub loop-preserved : goal.loop-preserved
loop-preserved g c =
    let held = c.loop.invariant in (
      held.0,
      held.1,
      held.2,
      gathered_more (FnReturnsAt g.F.Fn c.args.load) c.args.options.now c.args.reach (rules_of c.args.manifests.now) c.args.omits held.0
          c.loop.documents.items c.loop.requests _ _ c.in-Some.request (rw c.in-Some.is at c.pop_front.ensures.items) refl held.3 _
          c.in_ok-add_document.ensures.added,
    )

pub returns-in_default-clause-documents : goal.returns-in_default-clause-documents
returns-in_default-clause-documents g c =
    let held = c.loop.invariant in
    let empty : c.loop.requests.queue.items ≡ [] =
    nothing_left c.loop.requests.queue.items ((rw c.in_default.is at c.pop_front.ensures.items) ∙ c.pop_front.ensures.rest) in record {
      wishes = held.0;
      left_out = held.1;
      of_root = held.2;
      peers = held.3.peers;
      of_documents = held.3.of_documents;
      read = all_read (FnReturnsAt g.F.Fn c.args.load) (all_asked held.0 held.3.peers) c.loop.documents.items c.loop.requests empty held.3.held;
      found = held.3.held.found;
    }

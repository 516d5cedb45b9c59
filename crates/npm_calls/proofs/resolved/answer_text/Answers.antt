-- The documents are members of the object, and the text is that of the answer for them.
use Rattle.std.proofs.Common.{rules, ℕ, List, subst}
use Rattle.std.proofs.lemmas.Result.{IfOk-weaker}
use Rattle.serde_json.specs.View.{view}
use Rattle.npm_calls.specs.Resolved.{Gives}
use Rattle.npm_calls.proofs.Loaders.{documents_kept}
use Rattle.npm_calls.proofs.resolved.answer_text.Goals as goal

pub returns : goal.returns
returns c =
    let needed = rw (c.from_ref-manifests.ensures.value, c.reach_of-reach.ensures) at c.in-Ok.ensures.documents in
    IfOk-weaker c.said_of.result _ _ (λ text is. record {
      found = c.in-Ok.found.items;
      needed = documents_kept (Gives (view c.args.documents.now)) needed
          (λ name loaded says. subst (λ (n : List ℕ). Gives (view c.args.documents.now) n loaded) says.shows (search rules));
      answer = c.in_ok-answer.answer;
      answered = rw (c.from_ref-manifests.ensures.value, c.deref.ensures.value, c.reach_of-reach.ensures) at c.in_ok-answer.ensures;
      text_is = rw (c.from_ref-manifests.ensures.value, c.deref-2.ensures.value) at is;
    }) c.said_of.ensures

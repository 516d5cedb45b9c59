-- The documents, the answer for them, and its lines.
use Rattle.std.proofs.Common.{◌≡◌, ◌∙◌, false, map, refl, sym, true}
use Rattle.npm_resolve.specs.Texts.{text}
use Rattle.npm_resolve_reports.specs.Reply.{is_unread}
use Rattle.npm_resolve_reports.proofs.reply.reply_of.Goals as goal

pub returns-then-is_unread-clause-reply : goal.returns-then-is_unread-clause-reply
returns-then-is_unread-clause-reply g c =
    let is : is_unread c.args.format c.in_ok-answer.answer.resolution (map text c.in_ok-answer.answer.unread.items) ≡ true =
    rw c.deref-7.ensures.value at (sym c.is_unread.ensures ∙ c.if-is_unread.true) in record {
      documents = c.in-Ok.documents.items;
      read = c.in-Ok.ensures.documents;
      answer = c.in_ok-answer.answer;
      answered = rw c.deref.ensures.value at c.in_ok-answer.ensures;
      lines = rw is c.new.ensures.items;
      ending = rw is refl;
    }

pub returns-clause-reply : goal.returns-clause-reply
returns-clause-reply g c =
    let is : is_unread c.args.format c.in_ok-answer.answer.resolution (map text c.in_ok-answer.answer.unread.items) ≡ false =
    rw c.deref-7.ensures.value at (sym c.is_unread.ensures ∙ c.if-is_unread.false) in record {
      documents = c.in-Ok.documents.items;
      read = c.in-Ok.ensures.documents;
      answer = c.in_ok-answer.answer;
      answered = rw c.deref.ensures.value at c.in_ok-answer.ensures;
      lines = rw is (rw c.deref-8.ensures.value at c.in_ok-lines_of.ensures);
      ending = rw is c.ending_of.ensures;
    }

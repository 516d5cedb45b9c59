-- The texts in order are those that came.
use Rattle.npm_pick_reports.proofs.mirror.requests.Groups.texts_of.Goals as goal

pub returns : goal.returns
returns c = λ text. rw c.in_ok-texts.ensures at (c.put_in_order.ensures.exact text)

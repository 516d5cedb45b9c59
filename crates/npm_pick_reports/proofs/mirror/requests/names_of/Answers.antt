-- The names in order are those that came.
use Rattle.npm_pick_reports.proofs.mirror.requests.names_of.Goals as goal

pub returns-clause-exact : goal.returns-clause-exact
returns-clause-exact c = λ name. rw (c.in_ok-add_names-2.ensures, c.in_ok-add_names.ensures, c.new-names.ensures.items)
    at (c.put_in_order.ensures.exact name)

-- Each field is a copy.
use Rattle.std.proofs.Common.{◌∙◌}
use Rattle.serde_json.specs.View.{view}
use Rattle.npm_packages.specs.Edges.{edge_value}
use Rattle.npm_lock.proofs.ProblemTexts.{of_copies}
use Rattle.npm_lock.proofs.outcome.dependency_of.Goals as goal

pub returns : goal.returns
returns c = of_copies c.in_ok-from_str.field-0 c.in_ok-from_str-2.field-0 c.in_ok-from_str-3.field-0
    c.in_ok-copied.field-0 c.in_ok-copied-2.field-0 c.in_ok-copied-3.field-0 c.is_marked.result c.is_marked-2.result
    c.is_marked-3.result (view c.args.asker.now) (edge_value c.args.edge.now)
    c.in_ok-from_str.ensures.ok (c.in_ok-copied.ensures ∙ c.version_of.ensures) c.in_ok-from_str-2.ensures.ok
    c.in_ok-from_str-3.ensures.ok c.in_ok-copied-2.ensures c.in_ok-copied-3.ensures c.is_marked.ensures
    c.is_marked-2.ensures c.is_marked-3.ensures

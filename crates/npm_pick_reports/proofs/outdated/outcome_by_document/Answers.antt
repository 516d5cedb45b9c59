-- No version is picked, or the wanted version is current, or it is not.
use Rattle.std.proofs.Common.{◌∙◌, inl, inr, sym}
use Rattle.npm_packages.specs.Edges.{edge_value}
use Rattle.serde_json.specs.View.{view}
use Rattle.npm_pick_reports.specs.Outdated.{current, unpicked}
use Rattle.npm_pick_reports.proofs.Outcomes.{behind_row}
use Rattle.npm_pick_reports.proofs.outdated.outcome_by_document.Goals as goal

pub returns-in_default-clause-found : goal.returns-in_default-clause-found
returns-in_default-clause-found c = unpicked (inl (rw c.in_default.is at c.in_ok-wanted.ensures.found))

pub returns-in_default-2-clause-found : goal.returns-in_default-2-clause-found
returns-in_default-2-clause-found c = unpicked (inr (rw c.in_default-2.is at c.in_ok-latest.ensures.found))

pub returns-then-is_current-clause-found : goal.returns-then-is_current-clause-found
returns-then-is_current-clause-found c = current c.in-Some.wanted.now c.in-Some-2.latest.now
    (rw c.in-Some.is at c.in_ok-wanted.ensures.found) (rw c.in-Some-2.is at c.in_ok-latest.ensures.found)
    (sym c.is_current.ensures ∙ c.if-is_current.true)

pub returns-clause-found : goal.returns-clause-found
returns-clause-found c = behind_row (view c.args.packument.now) c.args.options.now c.args.text.now
    (edge_value c.args.edge) c.in_ok-wanted-2.wanted c.in_ok-latest-2.latest c.in-Some.wanted.now
    c.in-Some-2.latest.now c.in_ok-wanted-2.ensures.ok c.in_ok-latest-2.ensures.ok
    (rw c.in-Some.is at c.in_ok-wanted.ensures.found) (rw c.in-Some-2.is at c.in_ok-latest.ensures.found)
    (sym c.is_current.ensures ∙ c.if-is_current.false)

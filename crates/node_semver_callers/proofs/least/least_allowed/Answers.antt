-- The least version that the range admits is the least that its text admits.
use Rattle.node_semver_callers.proofs.LeastOfText.{admitted-some, least-some}
use Rattle.node_semver_callers.proofs.least.least_allowed.Goals as goal

pub returns-clause-admitted : goal.returns-clause-admitted
returns-clause-admitted c = admitted-some _ _ c.in_ok-range.ensures.means _ c.in_ok-min_version.ensures.least

pub returns-clause-least : goal.returns-clause-least
returns-clause-least c = least-some _ _ c.in_ok-range.ensures.means _ c.in_ok-min_version.ensures.least

pub returns-clause-none : goal.returns-clause-none
returns-clause-none c = (
  λ none v fits. c.in_ok-min_version.ensures.none.0 none v ((c.in_ok-range.ensures.means v).1 fits),
  λ no. c.in_ok-min_version.ensures.none.1 (λ v admits. no v ((c.in_ok-range.ensures.means v).0 admits)),
)

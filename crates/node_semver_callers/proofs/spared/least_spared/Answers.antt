-- The least version admitted beyond the union, or the least one admitted if the advisory has no ranges.
use Rattle.std.proofs.Common.{rules}
use Rattle.node_semver_callers.proofs.UnionHits.{all-spared, beyond-spared, hits-some, least-spared}
use Rattle.node_semver_callers.proofs.UnionHits.{none-spared}
use Rattle.node_semver_callers.proofs.spared.least_spared.Goals as goal

pub returns-in_ok-least_beyond-in-Some-clause-least : goal.returns-in_ok-least_beyond-in-Some-clause-least
returns-in_ok-least_beyond-in-Some-clause-least c =
    least-spared c.args.range.now c.args.advisory.now _
    (beyond-spared c.args.range.now c.args.advisory.now c.in-Some.hit
    (hits-some c.args.advisory.now _ c.in-Some.hit c.in-Some.is c.in_ok-hit.ensures.admitted)) _
    c.in_ok-least_beyond-in-Some.ensures.least

pub returns-in_ok-least_beyond-in-Some-clause-none : goal.returns-in_ok-least_beyond-in-Some-clause-none
returns-in_ok-least_beyond-in-Some-clause-none c =
    none-spared c.args.range.now c.args.advisory.now _
    (beyond-spared c.args.range.now c.args.advisory.now c.in-Some.hit
    (hits-some c.args.advisory.now _ c.in-Some.hit c.in-Some.is c.in_ok-hit.ensures.admitted)) _
    c.in_ok-least_beyond-in-Some.ensures.none

pub returns-in_ok-min_version-in-None-clause-least : goal.returns-in_ok-min_version-in-None-clause-least
returns-in_ok-min_version-in-None-clause-least c =
    least-spared c.args.range.now c.args.advisory.now _ (all-spared c.args.range.now c.args.advisory.now
    (c.in_ok-hit.ensures.none.0 (search (rules, c.in-None.is)))) _
    c.in_ok-min_version-in-None.ensures.least

pub returns-in_ok-min_version-in-None-clause-none : goal.returns-in_ok-min_version-in-None-clause-none
returns-in_ok-min_version-in-None-clause-none c =
    none-spared c.args.range.now c.args.advisory.now _ (all-spared c.args.range.now c.args.advisory.now
    (c.in_ok-hit.ensures.none.0 (search (rules, c.in-None.is)))) _
    c.in_ok-min_version-in-None.ensures.none

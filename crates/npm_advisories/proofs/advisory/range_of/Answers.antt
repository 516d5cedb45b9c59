-- With prereleases included a text admits what the sets of its range contain.
use Rattle.std.proofs.Common.{◌≡◌, rules}
use Rattle.serde_json.specs.View.{view}
use Rattle.npm_advisories.specs.Advisories.{npm_range_text}
use Rattle.npm_advisories.proofs.advisory.range_of.Goals as goal

pub returns-in-Ok-clause-range : goal.returns-in-Ok-clause-range
returns-in-Ok-clause-range c =
    let text : npm_range_text (view c.args.entry.now) ≡ c.unwrap_or.result.now = search rules in
    record { means = λ v. rw text (c.in-Ok.ensures.means v); holds = c.in-Ok.ensures.holds }

-- The sets that the range does not admit are added.
use Rattle.npm_advisories.specs.Offers.{IsAskedFor}
use Rattle.semver_cuts.specs.Lemmas.Lists.{all-append}
use Rattle.node_semver.specs.Ranges.{IsRangeSet}
use Rattle.npm_advisories.proofs.SpanLists.{asked-outside}
use Rattle.npm_advisories.proofs.spans.add_outside.Goals as goal

pub returns-clause-holds : goal.returns-clause-holds
returns-clause-holds c =
    rw c.in_ok-append.ensures.items
    (all-append IsRangeSet c.args.spans.now.items c.in_ok-sets.sets.items c.requires c.in_ok-sets.ensures.holds)

pub returns-clause-range : goal.returns-clause-range
returns-clause-range c =
    asked-outside (IsAskedFor c.args.text.now) c.args.spans.now.items c.in_ok-sets.sets.items c.append.new.self.items
    c.in-Ok.range c.in_ok-append.ensures.items c.in_ok-sets.ensures.releases c.in-Ok.ensures.means

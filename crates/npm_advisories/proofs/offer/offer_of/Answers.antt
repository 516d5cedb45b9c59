-- The releases from the least above the version on are those above it.
use Rattle.std.proofs.Common.{map}
use Rattle.npm_advisories.proofs.Offering.{free-admitted, free-unhit}
use Rattle.npm_advisories.proofs.Results.{same-offer}
use Rattle.npm_advisories.proofs.offer.offer_of.Goals as goal

pub returns-clause-least : goal.returns-clause-least
returns-clause-least c =
    let above = rw c.in_ok-to_version.ensures.copy at c.release_above-next.ensures in
    same-offer (free-unhit c.args.covered.now c.args.version.now c.release_above-next.result above)
    c.least_free-least.result c.least_free-least.ensures

pub returns-clause-admitted : goal.returns-clause-admitted
returns-clause-admitted c =
    let above = rw c.in_ok-to_version.ensures.copy at c.release_above-next.ensures in
    same-offer (free-admitted c.args.covered.now c.args.version.now c.release_above-next.result above
    (map (λ text. text.now) c.args.asked.now)) c.in_ok-admitted.admitted c.in_ok-admitted.ensures

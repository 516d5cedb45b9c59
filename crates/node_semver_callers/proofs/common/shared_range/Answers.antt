-- What the two ranges admit is what their texts admit; a version that both admit lies in a cut that they share.
use Rattle.semver_cuts.specs.declared.cut.Cut.TheVariants.{Before}
use Rattle.node_semver_callers.proofs.AdmittedCuts.{admitted-inside}
use Rattle.node_semver_callers.proofs.common.shared_range.Goals as goal

pub returns-clause-releases : goal.returns-clause-releases
returns-clause-releases c v release =
    let one = c.in_ok-range.ensures.means v in
    let other = c.in_ok-with.ensures.means v in
    let both = c.in_ok-intersect.ensures.releases v release in
    (λ admits. (one.0 (both.0 admits).0, other.0 (both.0 admits).1), λ fits. both.1 (one.1 fits.0, other.1 fits.1))

pub returns-clause-none : goal.returns-clause-none
returns-clause-none c none v fits =
    let one = c.in_ok-range.ensures.means v in
    let other = c.in_ok-with.ensures.means v in
    c.in_ok-intersect.ensures.none.0 none
    (Before v, admitted-inside _ v (one.1 fits.0), admitted-inside _ v (other.1 fits.1))

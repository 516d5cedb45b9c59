-- The release itself, or the one where the span around it ends.
use Rattle.std.proofs.Common.{◌∙◌, subst}
use Rattle.semver_cuts.specs.Ends.{IsInSpan}
use Rattle.node_semver.specs.Cuts.{Before, IsInSome}
use Rattle.node_semver.specs.Versions.{version_cmp}
use Rattle.npm_advisories.proofs.FreeReleases.{end-aligned, free-around, free-here}
use Rattle.npm_advisories.proofs.ReleaseCuts.{plain-same}
use Rattle.npm_advisories.proofs.covered.least_free.Goals as goal

pub returns-in-Some : goal.returns-in-Some
returns-in-Some c =
    let same = c.release_of.ensures ∙ plain-same c.args.from.now c.requires.from in
    let told = c.in-Some.ensures in
    free-around c.args.covered.now c.requires.steps c.args.from.now c.requires.from c.in-Some.span.now told.0
    (subst (λ v. IsInSpan version_cmp c.in-Some.span.now (Before v)) same told.1)
    (end-aligned c.args.covered.now c.requires.steps c.in-Some.span.now told.0) c.release_at.result
    (rw c.upper.ensures at c.release_at.ensures)

pub returns : goal.returns
returns c =
    let same = c.release_of.ensures ∙ plain-same c.args.from.now c.requires.from in
    let again = c.release_of-in-None.ensures ∙ plain-same c.args.from.now c.requires.from in
    rw again (free-here c.args.covered.now c.requires.steps c.args.from.now c.requires.from
    (subst (λ v. ¬ IsInSome version_cmp c.args.covered.now (Before v)) same c.in-None.ensures))

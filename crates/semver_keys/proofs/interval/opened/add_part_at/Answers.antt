use Rattle.std.proofs.Common.{◌++◌, sym, ap, ◌∙◌}
use Rattle.std.proofs.lemmas.List.{append-nil}
use Rattle.std.proofs.lemmas.Bool.{iff_false}
use Rattle.semver_cuts.specs.Ends.{span_between}
use Rattle.semver_keys.proofs.OpenedSteps.{none-is, rising}
use Rattle.semver_keys.proofs.interval.opened.add_part_at.Goals as goal

pub returns-then-not-is_prerelease : goal.returns-then-not-is_prerelease
returns-then-not-is_prerelease c = sym (ap (λ others. c.args.parts.now.items ++ others)
    (none-is c.args.set.now c.args.end.now c.args.end.now.pre_release
    (iff_false c.is_prerelease.ensures c.if-not-is_prerelease.true))
    ∙ append-nil c.args.parts.now.items)

pub between-requires : goal.between-requires
between-requires c = rw (c.in_ok-copy_of.ensures, c.in_ok-copy_of-2.ensures) (rising c.args.set.now c.in_ok-prereleases.prereleases
    (span_between c.in-Some.lower.now c.in-Some.upper.now) c.in-Some.ensures.ends)

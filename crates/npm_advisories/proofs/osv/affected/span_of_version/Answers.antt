-- The span of the version, or none.
use Rattle.npm_advisories.proofs.OsvSpans.{before-after, have-other, have-version}
use Rattle.npm_advisories.proofs.osv.affected.span_of_version.Goals as goal

pub returns-in_default : goal.returns-in_default
returns-in_default c = have-other c.args.text.now c.in_default.ensures.only

pub between-requires : goal.between-requires
between-requires c =
    rw (c.in_ok-to_version.ensures.copy, c.in_ok-to_version-2.ensures.copy) (before-after c.in-Some.version)

pub returns : goal.returns
returns c =
    rw (c.between.ensures, c.in_ok-to_version.ensures.copy, c.in_ok-to_version-2.ensures.copy)
    (have-version c.args.text.now c.in-Some.version c.in-Some.ensures.read c.in-Some.ensures.only c.in-Some.ensures.end)

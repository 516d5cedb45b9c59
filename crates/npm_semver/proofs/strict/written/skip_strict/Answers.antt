use Rattle.std.proofs.Common.{rules}
use Rattle.npm_semver.specs.Private.StrictViews.{is_inner}
use Rattle.npm_semver.proofs.Versions.StrictParts.{reached-end, reached-next, reached-start, reached-unstrict}
use Rattle.npm_semver.proofs.Versions.StrictParts.{shorter-next}
use Rattle.npm_semver.proofs.strict.written.skip_strict.Goals as goal

pub parts-init : goal.parts-init
parts-init c = reached-start _ _

pub returns-then-not-is_strict-clause-unstrict : goal.returns-then-not-is_strict-clause-unstrict
returns-then-not-is_strict-clause-unstrict c =
    reached-unstrict c.args.part c.args.text.now c.parts.rest.now c.split.result.0.now c.split.result.1.now
    c.parts.invariant (c.split.ensures.prefix (is_inner c.args.part) (search rules))
    (c.split.ensures.rest (is_inner c.args.part) (search rules)) (search rules)

pub parts-smaller : goal.parts-smaller
parts-smaller c =
    shorter-next c.args.part c.args.text.now c.parts.rest.now c.split.result.0.now c.split.result.1.now
    c.parts.invariant (c.split.ensures.prefix (is_inner c.args.part) (search rules))
    (c.split.ensures.rest (is_inner c.args.part) (search rules)) c.in-Some.next.now (search rules)

pub parts-preserved : goal.parts-preserved
parts-preserved c =
    reached-next c.args.part c.args.text.now c.parts.rest.now c.split.result.0.now c.split.result.1.now
    c.parts.invariant (c.split.ensures.prefix (is_inner c.args.part) (search rules))
    (c.split.ensures.rest (is_inner c.args.part) (search rules)) c.in-Some.next.now (search rules) (search rules)

pub returns-in-None-clause-strict : goal.returns-in-None-clause-strict
returns-in-None-clause-strict c =
    reached-end c.args.part c.args.text.now c.parts.rest.now c.split.result.0.now c.split.result.1.now
    c.parts.invariant (c.split.ensures.prefix (is_inner c.args.part) (search rules))
    (c.split.ensures.rest (is_inner c.args.part) (search rules)) (search rules) (search rules)

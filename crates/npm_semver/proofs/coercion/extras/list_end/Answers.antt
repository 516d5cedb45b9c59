use native.Mathlib.Omega.{arith}
use Rattle.npm_semver.specs.CoerceWithPrerelease.{last}
use Rattle.npm_semver.proofs.Versions.Extras.{list_first, list_from, list_next, list_on, list_stops}
use Rattle.npm_semver.proofs.coercion.extras.list_end.Goals as goal

pub returns-in-Missing-clause-ending : goal.returns-in-Missing-clause-ending
returns-in-Missing-clause-ending c = grind (arith, list_first)

pub returns-in-AfterLimit-clause-ending : goal.returns-in-AfterLimit-clause-ending
returns-in-AfterLimit-clause-ending c =
    let first = c.in-AfterLimit.ensures.ending in
    (first.0, first.1, last c.args.start first.0 first.2)

pub identifiers-init : goal.identifiers-init
identifiers-init c = record {
  within = c.in-At.ensures.within;
  listed = last c.args.start c.in-At.end c.in-At.ensures.ending;
  others = λ other h.
      list_from c.args.extra c.args.text.now c.args.start c.in-At.end other c.in-At.ensures.ending h;
}

pub identifiers-preserved : goal.identifiers-preserved
identifiers-preserved c = grind (arith, list_on, list_next)

pub returns-in-Missing-identifier_end-clause-ending : goal.returns-in-Missing-identifier_end-clause-ending
returns-in-Missing-identifier_end-clause-ending c = grind (arith, list_stops)

pub returns-in-AfterLimit-identifier_end-clause-ending : goal.returns-in-AfterLimit-identifier_end-clause-ending
returns-in-AfterLimit-identifier_end-clause-ending c = grind (arith, list_on)

use Rattle.std.proofs.Common.{◌-◌, arith, rules}
use Rattle.npm_semver.proofs.Versions.NumberPlaces.{before_run}
use Rattle.npm_semver.proofs.coercion.last.last_number.Goals as goal

pub returns-then-start-eq0-clause-none : goal.returns-then-start-eq0-clause-none
returns-then-start-eq0-clause-none c = λ start end h.
    absurd (omega (
      arith,
      c.if-start-eq0.true,
      before_run c.args.text.now c.digits_start-start.result c.numbers.end (record {
        to = c.digits_start-start.ensures.to;
        within = c.numbers.invariant.within;
        digits = c.digits_start-start.ensures.digits;
        before = c.digits_start-start.ensures.before;
        after = c.numbers.invariant.after;
      }) (search rules) start end h (c.numbers.invariant.last start end h),
    ))

pub numbers-preserved : goal.numbers-preserved
numbers-preserved c = record {
  within = omega (arith, c.digits_start-start.ensures.to, c.numbers.invariant.within);
  after = c.digits_start-start.ensures.before (c.digits_start-start.result - 1) (search rules);
  last = λ start end h.
      omega (
        arith,
        before_run c.args.text.now c.digits_start-start.result c.numbers.end (record {
          to = c.digits_start-start.ensures.to;
          within = c.numbers.invariant.within;
          digits = c.digits_start-start.ensures.digits;
          before = c.digits_start-start.ensures.before;
          after = c.numbers.invariant.after;
        }) (search rules) start end h (c.numbers.invariant.last start end h),
      );
}

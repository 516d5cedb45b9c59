use Rattle.std.proofs.Common.{◌≡◌, ℕ, false, arith, rules, subst, sym}
use Rattle.npm_semver.specs.Coerce.{is_digit_at}
use Rattle.npm_semver.proofs.Versions.NumberPlaces.{past_run}
use Rattle.npm_semver.proofs.coercion.first.number_from.Goals as goal

pub numbers-preserved : goal.numbers-preserved
numbers-preserved c = record {
  after = omega (arith, c.digits_end-end.ensures.from, c.numbers.invariant.after);
  before = λ place e.
      let same : place ≡ c.digits_end-end.result = omega (arith, e) in
      subst (λ (n : ℕ). is_digit_at c.args.text.now n ≡ false) (sym same) c.digits_end-end.ensures.after;
  first = λ one other from h.
      past_run c.args.text.now c.numbers.start c.digits_end-end.result (record {
        to = c.digits_end-end.ensures.from;
        within = c.digits_end-end.ensures.within;
        digits = c.digits_end-end.ensures.digits;
        before = c.numbers.invariant.before;
        after = c.digits_end-end.ensures.after;
      }) (search rules) one other h (c.numbers.invariant.first one other from h);
}

pub returns-clause-none : goal.returns-clause-none
returns-clause-none c = λ start end from h.
    absurd (omega (arith, c.numbers-test.false, c.numbers.invariant.first start end from h, h.some, h.within))

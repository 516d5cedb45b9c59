use Rattle.std.proofs.Common.{◌≡◌, ◌-◌, ℕ, ap, arith, rules, subst}
use Rattle.semver_texts.specs.Characters.{is_digit}
use Rattle.npm_semver.specs.Coerce.{IsNumberAt}
use Rattle.npm_semver.proofs.Versions.NumberPlaces.{none_to}
use Rattle.npm_semver.proofs.coercion.number.previous_number.Goals as goal

pub returns-else-is_number-clause-none : goal.returns-else-is_number-clause-none
returns-else-is_number-clause-none c = λ start end e point h.
    let same : end ≡ c.args.place - 1 = omega (arith, e) in
    none_to c.args.text.now c.digits_start-start.result (c.args.place - 1) (record {
      to = c.digits_start-start.ensures.to;
      within = omega (arith, c.requires);
      digits = c.digits_start-start.ensures.digits;
      before = c.digits_start-start.ensures.before;
      after = ap is_digit c.if-text-place-ne46.false;
    }) (search rules) start (subst (λ (n : ℕ). IsNumberAt c.args.text.now start n) same h)

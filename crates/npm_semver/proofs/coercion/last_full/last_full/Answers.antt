use Rattle.std.proofs.Common.{◌≡◌, ◌+◌, ℕ, arith, false, subst, sym}
use Rattle.npm_semver.specs.Coerce.{is_digit_at}
use Rattle.npm_semver.specs.Private.ExtraViews.{IsFoundBefore}
use Rattle.npm_semver.specs.Private.PieceViews.{IsFirstNumber}
use Rattle.npm_semver.proofs.Versions.LastFull.{found_none, found_some, keep_long, last_there}
use Rattle.npm_semver.proofs.coercion.last_full.last_full.Goals.{in-Some-full_from+else-piece-text}
use Rattle.npm_semver.proofs.coercion.last_full.last_full.Goals.{in_default-full_from}
use Rattle.npm_semver.proofs.coercion.last_full.last_full.Goals as goal

pub returns-then-piece-text-clause-some : goal.returns-then-piece-text-clause-some
returns-then-piece-text-clause-some c = grind (arith, last_there)

pub numbers-preserved : goal.numbers-preserved
numbers-preserved c =
    let text = c.args.text.now in
    let number = c.in-Some.ensures.some in
    record {
      before = λ place e.
          let same : place ≡ c.in-Some.first = omega (arith, e) in
          subst (λ (n : ℕ). is_digit_at text n ≡ false) (sym same) number.number.after;
      found = elim c.match-full_from.branch [
        | in-Some-full_from+else-piece-text w ↦
            let full = w.in-Some-full_from.ensures in
            let piece = w.in-Some-full_from.piece in
            subst (IsFoundBefore text (c.in-Some.first + 1)) (sym w.found-is)
            (w.later-found.ensures text c.numbers.from c.in-Some.first c.numbers.invariant.found
            (subst (λ (n : ℕ). IsFirstNumber text c.numbers.from n c.in-Some.first) (sym full.start) number) full.full
            (omega (arith, full.start, full.short)) (omega (arith, w.if-piece-text.false)))
        | in_default-full_from w ↦
            subst (IsFoundBefore text (c.in-Some.first + 1)) (sym w.found-is)
            (keep_long text c.numbers.from c.in-Some.start c.in-Some.first c.numbers.found c.numbers.invariant.found
            number
            w.in_default-full_from.ensures.none)
      ];
    }

pub returns-clause-some : goal.returns-clause-some
returns-clause-some c = grind (arith, found_some)

pub returns-clause-none : goal.returns-clause-none
returns-clause-none c = grind (arith, found_none)

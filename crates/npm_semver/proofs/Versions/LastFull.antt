-- The piece that npm takes from the right, as a loop goes over the numbers of the text.
use Rattle.std.proofs.Common.{◌≡◌, ◌+◌, ◌-◌, ◌<◌, ◌≤◌, ◌⊎◌, ℕ, List, length, Option, Some, None, inl, inr}
use Rattle.std.proofs.Common.{arith}
use Rattle.std.specs.Prelude.{IfNone, IfSome}
use Rattle.semver_texts.specs.declared.TheConstants.{MAX_LENGTH}
use Rattle.npm_semver.specs.Coerce.{IsNumberAt}
use Rattle.npm_semver.specs.CoerceWithPrerelease.{Ends, IsLastFull, IsShortPiece}
use Rattle.npm_semver.specs.Private.ExtraViews.{AreEndedUpTo, IsFoundBefore, IsFullAt, IsTooLongAt, ends_of}
use Rattle.npm_semver.specs.Private.PieceViews.{IsFirstNumber, numbers_of}
use Rattle.npm_semver.specs.declared.coercion.full.FullPiece.{FullPiece}
use Rattle.npm_semver.proofs.Versions.FullPieces.{short_first, short_full, short_same}

-- ---- one number more

-- no other number starts up to its end
only_number : (text : List ℕ) (start first other end : ℕ) → IsNumberAt text start first → IsNumberAt text other end
    → start ≤ other → other < first + 1 → other ≡ start
only_number text start first other end h g from to =
    grind (arith, h.digits (other - 1), g.before (other - 1), h.digits other, g.digits other)

-- so a short piece starts before, or with it
before_or_here : (text : List ℕ) (from start first other end : ℕ) → IsFirstNumber text from start first
    → IsShortPiece text other end → other < first + 1 → (other < from) ⊎ (other ≡ start)
before_or_here text from start first other end number h to =
    let there = short_first text other end h in
    grind (arith, number.first other there.0, only_number text start first other there.0 number.number there.1)

-- some of more pieces
fewer : (text : List ℕ) (start from to end : ℕ) → from ≤ to → AreEndedUpTo text start to end
    → AreEndedUpTo text start from end
fewer text start from to end less all other stop h after before = all other stop h after (omega (arith, before, less))

-- ---- nothing is found before

-- no short piece starts with the number
keep_none : (text : List ℕ) (from start first : ℕ) → IsFoundBefore text from None
    → IsFirstNumber text from start first → ((end : ℕ) → ¬ IsShortPiece text start end)
    → IsFoundBefore text (first + 1) None
keep_none text from start first h number none = record {
  inner = λ other end short before.
      grind (arith, before_or_here text from start first other end number short, h.inner other end short, none end);
  none = λ other end short.
      grind (arith, before_or_here text from start first other end number short, h.none other end short, none end);
  some = tt;
}

-- ---- one is found before, and those that start with the number end where it does

pub keep_some : (text : List ℕ) (from start first : ℕ) (p : FullPiece) → IsFoundBefore text from (Some p)
    → IsFirstNumber text from start first
    → ((end : ℕ) → IsShortPiece text start end → (end ≡ p.end) × (end + 1 < length text))
    → IsFoundBefore text (first + 1) (Some p)
keep_some text from start first p h number same = record {
  inner = λ other end short before.
      grind (arith, before_or_here text from start first other end number short, h.inner other end short, same end);
  none = tt;
  some = record {
    full = h.some.full;
    short = h.some.short;
    within = h.some.within;
    before = grind arith;
    ended = λ other end short after before.
        grind (arith, before_or_here text from start first other end number, h.some.ended other end short, same end);
    first = λ other end short before all. h.some.first other end short before (λ a b c d e. all a b c d (grind arith));
  };
}

-- no short piece starts where one is too long
long_short : (text : List ℕ) (start end : ℕ) → IsTooLongAt text start → ¬ IsShortPiece text start end
long_short text start end long h = grind arith

-- so nothing else is found there
pub keep_long : (text : List ℕ) (from start first : ℕ) (found : Option FullPiece) → IsFoundBefore text from found
    → IsFirstNumber text from start first → IsTooLongAt text start → IsFoundBefore text (first + 1) found
keep_long text from start first None h number long =
    keep_none text from start first h number (λ end. long_short text start end long)
keep_long text from start first (Some p) h number long =
    keep_some text from start first p h number (λ end short. absurd (long_short text start end long short))

-- ---- the piece that starts with the number ends elsewhere

-- then no earlier one is followed by pieces with one end alone
not_earlier : (text : List ℕ) (from other end : ℕ) (found : Option FullPiece) (p : FullPiece)
    → IsFoundBefore text from found → IsShortPiece text other end → other < from → p.end ≡ end
    → AreEndedUpTo text other from end → IfSome found (λ before. ¬ (before.end ≡ p.end)) → ⊥
not_earlier text from other end None p h g before e all differs = grind (arith, h.none other end g)
not_earlier text from other end (Some q) p h g before e all differs =
    grind (arith, h.some.first other end g, h.some.ended other end g)

pub take : (text : List ℕ) (from first : ℕ) (found : Option FullPiece) (p : FullPiece) → IsFoundBefore text from found
    → IsFirstNumber text from p.start first → IsFullAt text p → p.end ≤ p.start + MAX_LENGTH
    → p.end + 1 < length text → IfSome found (λ before. ¬ (before.end ≡ p.end))
    → IsFoundBefore text (first + 1) (Some p)
take text from first found p h number full short inner differs =
    let here : IsShortPiece text p.start p.end = short_full text p full short in
    let same : (end : ℕ) → IsShortPiece text p.start end → end ≡ p.end =
    λ end g. short_same text p.start p.end end here g in
    record {
      inner = λ other end g before.
          grind (arith, same end, before_or_here text from p.start first other end number g, h.inner other end g);
      none = tt;
      some = record {
        full = full;
        short = short;
        within = omega (arith, inner);
        before = omega (arith, number.number.some);
        ended = λ other end g after before.
            grind (arith, same end, before_or_here text from p.start first other end number g before, number.after);
        first = λ other end g before all.
            let e : p.end ≡ end = all p.start p.end here (omega (arith, before)) (omega (arith, number.number.some)) in
            elim (before_or_here text from p.start first other end number g
            (omega (arith, before, number.number.some))) [
              | inl earlier ↦ not_earlier text from other end found p h g earlier e
                  (fewer text other from (first + 1) end (omega (arith, number.after, number.number.some)) all) differs
              | inr equal ↦ absurd (omega (arith, equal, before))
            ];
      };
    }

-- ---- what the loop returns

-- one that ends where the text does
pub last_there : (text : List ℕ) (from start first : ℕ) (found : Option FullPiece) (p : FullPiece)
    → IsFoundBefore text from found → IsFirstNumber text from start first → p.start ≡ start → IsFullAt text p
    → p.end ≤ start + MAX_LENGTH → length text ≤ p.end + 1
    → IsLastFull text p.start (ends_of p) (numbers_of p.piece)
last_there text from start first found p h number e full short reaches = record {
  full = full;
  short = omega (arith, e, short);
  last = inl reaches;
  longest = λ other end g last. grind (
    arith,
    number.first other (short_first text other end g).0,
    (short_first text other end g).1,
    h.inner other end g,
    short_full text p full,
  );
}

-- the one that was found, if no number is left
last_found : (text : List ℕ) (from : ℕ) (p : FullPiece) → IsFoundBefore text from (Some p)
    → ((start end : ℕ) → from ≤ start → ¬ IsNumberAt text start end)
    → IsLastFull text p.start (ends_of p) (numbers_of p.piece)
last_found text from p h none =
    let before : (other end : ℕ) → IsShortPiece text other end → other < from =
    λ other end g. grind (arith, none other (short_first text other end g).0, (short_first text other end g).1) in
    record {
      full = h.some.full;
      short = h.some.short;
      last = inr (λ other end g after. h.some.ended other end g after (before other end g));
      longest = λ other end g last. elim last [
        | inl ended ↦ grind (arith, before other end g, h.inner other end g)
        | inr all ↦
            let no : ¬ (other < p.start) = λ e.
            h.some.first other end g e (λ start to k after _. all start to k after) in
            omega (arith, no)
      ];
    }

-- and none
none_found : (text : List ℕ) (from : ℕ) → IsFoundBefore text from None
    → ((start end : ℕ) → from ≤ start → ¬ IsNumberAt text start end) → (start end : ℕ) → ¬ IsShortPiece text start end
none_found text from h none start end g = grind (arith, none start (short_first text start end g).0, h.none start end g)

-- the same of the loop's result
pub found_some : (text : List ℕ) (from : ℕ) (found : Option FullPiece) → IsFoundBefore text from found
    → ((start end : ℕ) → from ≤ start → ¬ IsNumberAt text start end)
    → IfSome found (λ p. IsLastFull text p.start (ends_of p) (numbers_of p.piece))
found_some text from None h none = tt
found_some text from (Some p) h none = last_found text from p h none

pub found_none : (text : List ℕ) (from : ℕ) (found : Option FullPiece) → IsFoundBefore text from found
    → ((start end : ℕ) → from ≤ start → ¬ IsNumberAt text start end)
    → IfNone found ((start : ℕ) (ends : Ends) (numbers : List (List ℕ)) → IsLastFull text start ends numbers
    → start + MAX_LENGTH < ends.build)
found_none text from (Some p) h none = tt
found_none text from None h none = λ start ends numbers last.
    grind (arith, none_found text from h none start ends.build)

-- The first place where one of two tests passes is the earlier of the first places where each of them does.
use Rattle.std.proofs.Common.{◌≡◌, ◌&&◌, ◌||◌, ◌∙◌, ◌+◌, ◌≤◌, ℕ, List, [], ◌∷◌, Bool, Option, Some, None, true, false, ap, arith, bytes_eq, cond}
use Rattle.std.proofs.Common.{min, not, refl, sym}
use Rattle.std.specs.List.{position_from}
use Rattle.npm_lock_reports.specs.AdvisoryExceptions.{ExceptionValue, is_over}
use Rattle.npm_lock_reports.specs.Exceptions.{ExceptionsValue}
use Rattle.npm_lock_reports.specs.Private.Places.{earlier, first_by}

-- ---- the earlier of two places

pub earlier-none : (one : Option ℕ) → earlier one None ≡ one
earlier-none None = refl
earlier-none (Some n) = refl

-- the place is none before this one
abbrev IsFrom : ℕ → Option ℕ → Type 0
IsFrom k None = Unit {0}
IsFrom k (Some n) = k ≤ n

from-later : (k : ℕ) (place : Option ℕ) → IsFrom (k + 1) place → IsFrom k place
from-later k None is = tt
from-later k (Some n) is = omega (arith, is)

earlier-here : (k : ℕ) (place : Option ℕ) → IsFrom k place → earlier (Some k) place ≡ Some k
earlier-here k None is = refl
earlier-here k (Some n) is = ap (λ m. Some m) (omega (arith, is))

earlier-there : (k : ℕ) (place : Option ℕ) → IsFrom k place → earlier place (Some k) ≡ Some k
earlier-there k None is = refl
earlier-there k (Some n) is = ap (λ m. Some m) (omega (arith, is))

from-here : (here : Bool) (k : ℕ) (later : Option ℕ) → IsFrom (k + 1) later → IsFrom k (cond here (Some k) later)
from-here true k later is = omega arith
from-here false k later is = from-later k later is

earlier-of : (a b : Bool) (k : ℕ) (one other either : Option ℕ) → IsFrom (k + 1) one → IsFrom (k + 1) other
    → either ≡ earlier one other
    → cond (a || b) (Some k) either ≡ earlier (cond a (Some k) one) (cond b (Some k) other)
earlier-of true true k one other either is there same = sym (earlier-here k (Some k) (omega arith))
earlier-of true false k one other either is there same = sym (earlier-here k other (from-later k other there))
earlier-of false true k one other either is there same = sym (earlier-there k one (from-later k one is))
earlier-of false false k one other either is there same = same

module _ {X : Type 0} where
  place-from : (test : X → Bool) (k : ℕ) (xs : List X) → IsFrom k (position_from test k xs)
  place-from test k [] = tt
  place-from test k (x ∷ xs) = from-here (test x) k (position_from test (k + 1) xs) (place-from test (k + 1) xs)

  module _ (one other either : X → Bool) (is : (x : X) → either x ≡ (one x || other x)) where
    pub first-either : (k : ℕ) (xs : List X)
        → position_from either k xs ≡ earlier (position_from one k xs) (position_from other k xs)
    first-either k [] = refl
    first-either k (x ∷ xs) = rw (is x) (earlier-of (one x) (other x) k (position_from one (k + 1) xs)
        (position_from other (k + 1) xs) (position_from either (k + 1) xs) (place-from one (k + 1) xs)
        (place-from other (k + 1) xs) (first-either (k + 1) xs))

  -- the first place where no test passes
  pub first-never : (test : X → Bool) → ((x : X) → test x ≡ false) → (k : ℕ) (xs : List X) → position_from test k xs ≡ None
  first-never test never k [] = refl
  first-never test never k (x ∷ xs) = rw (never x) (first-never test never (k + 1) xs)

  -- the first place where two tests pass alike
  pub first-alike : (one other : X → Bool) → ((x : X) → one x ≡ other x) → (k : ℕ) (xs : List X)
      → position_from one k xs ≡ position_from other k xs
  first-alike one other same k [] = refl
  first-alike one other same k (x ∷ xs) = rw (same x, first-alike one other same (k + 1) xs) refl

pub earlier-assoc : (one other third : Option ℕ) → earlier (earlier one other) third ≡ earlier one (earlier other third)
earlier-assoc None other third = refl
earlier-assoc (Some a) None third = refl
earlier-assoc (Some a) (Some b) None = refl
earlier-assoc (Some a) (Some b) (Some c) = ap (λ m. Some m) (omega arith)

-- ---- the tests of exceptions

pub and-either : (a b c d : Bool) → (a && (b && (c || d))) ≡ ((a && (b && c)) || (a && (b && d)))
and-either true true c d = refl
and-either true false c d = refl
and-either false b c d = refl

pub and-never : (a b : Bool) → (a && (b && false)) ≡ false
and-never true true = refl
and-never true false = refl
and-never false b = refl

module _ (exceptions : ExceptionsValue) (name : List ℕ) where
  abbrev test : (List ℕ → Bool) → ExceptionValue → Bool
  test is_one exception = not (is_over exceptions.today exception) && (bytes_eq exception.name name && is_one exception.id)

  abbrev first : (List ℕ → Bool) → Option ℕ
  first is_one = first_by exceptions name is_one

  pub first-or : (one other : List ℕ → Bool) → first (λ known. one known || other known) ≡ earlier (first one) (first other)
  first-or one other = first-either (test one) (test other) (test (λ known. one known || other known))
      (λ exception. and-either (not (is_over exceptions.today exception)) (bytes_eq exception.name name) (one exception.id)
      (other exception.id)) 0 exceptions.list

  pub first-none : (is_one : List ℕ → Bool) → ((known : List ℕ) → is_one known ≡ false) → first is_one ≡ None
  first-none is_one never = first-never (test is_one) (λ exception. rw (never exception.id)
      (and-never (not (is_over exceptions.today exception)) (bytes_eq exception.name name))) 0 exceptions.list

  pub first-same : (one other : List ℕ → Bool) → ((known : List ℕ) → one known ≡ other known) → first one ≡ first other
  first-same one other same = first-alike (test one) (test other)
      (λ exception. ap (λ b. not (is_over exceptions.today exception) && (bytes_eq exception.name name && b)) (same exception.id))
      0 exceptions.list

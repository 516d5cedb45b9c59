-- Numbers: the reader reads exactly the number texts.
use Rattle.std.proofs.Common.{arith}
use Rattle.std.proofs.Common.{◌≡◌, ℕ, List, ◌++◌, Ok, Err, sym}
use Rattle.std.proofs.lemmas.Bool.{le-leb, leb-true}
use Rattle.std.specs.Prelude.{Result}
use Rattle.semver_texts.specs.Characters.{BeginsWith, BeginsWithNo, is_digit}
use Rattle.semver_texts.specs.NumberText.{IsNumberText}
use Rattle.semver_texts.specs.Reading.{◌>>=◌, read_number}
use Rattle.semver_texts.specs.declared.parse.fault.Fault.{Fault}
use Rattle.semver_texts.specs.Lemmas.Texts.Prefixes.{rest_of-again, rest_of-no, begins-append, begins-with}
use Rattle.semver_texts.specs.Lemmas.Texts.Prefixes.{prefix_of-rest_of}
use Rattle.semver_texts.specs.Lemmas.Texts.Prefixes.{prefix_of-again, prefix_of-all, prefix_of-begins, with-begins}

-- a chain of two readers that succeeds
pub bind-ok : {A B : Type 0} (r : Result A Fault) (f : A → Result B Fault) (y : B) → (r >>= f) ≡ Ok y
    → (x : A) × (r ≡ Ok x) × (f x ≡ Ok y)
bind-ok r f y h = grind arith

-- the value of a success
abbrev pub answer : {A : Type 0} → A → Result A Fault
answer x = Ok x

-- the fault of a refusal
abbrev pub refusal : {A : Type 0} → Fault → Result A Fault
refusal e = Err e

pub ok-value : {A : Type 0} (x y : A) → answer x ≡ answer y → x ≡ y
ok-value x y h = cc h

-- the text before the rest is a number text, and the rest begins with no digit
pub record TakesNumber (text : List ℕ) (number : ℕ) (rest : List ℕ) : Type 0 where
  pub digits : List ℕ
  pub whole : text ≡ digits ++ rest
  pub read : IsNumberText digits number
  pub ends : BeginsWithNo is_digit rest

pub number-takes : (text : List ℕ) (number : ℕ) (rest : List ℕ) → read_number text ≡ Ok (number, rest)
    → TakesNumber text number rest
unfolding read_number
number-takes text number rest h =
    grind (arith, ok-value, leb-true, prefix_of-rest_of, prefix_of-begins, begins-with, prefix_of-all, rest_of-no)

-- a number text is read, if no digit follows it
pub number-again : (digits rest : List ℕ) (number : ℕ) → IsNumberText digits number → BeginsWithNo is_digit rest
    → read_number (digits ++ rest) ≡ Ok (number, rest)
unfolding read_number
number-again digits rest number read ends =
    grind (arith, with-begins, begins-append, prefix_of-again, rest_of-again, le-leb)

-- a number begins with a digit
pub number-digit : (text rest : List ℕ) (number : ℕ) → Ok (number, rest) ≡ read_number text → BeginsWith is_digit text
number-digit text rest number h = grind (arith, number-takes text number rest (sym h), begins-append)

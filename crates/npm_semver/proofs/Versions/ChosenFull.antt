-- The chosen piece with its prerelease and its build: there is only one, and so one version at most.
use Rattle.npm_semver.proofs.Versions.ChosenPieces.{same_numbers}
use Rattle.std.proofs.Common.{◌≡◌, ℕ, Bool, List, Option, Some, None, arith}
use Rattle.std.proofs.Common.{Result, Ok, Err}
use Rattle.std.specs.Prelude.{IfNone, IfOk}
use Rattle.npm_semver.specs.CoerceWithPrerelease.{Ends, IsChosenFull, IsCoercedWithPrerelease, IsFirstFull}
use Rattle.npm_semver.specs.CoerceWithPrerelease.{IsFullPiece, IsLastFull, IsShortPiece, IsVersionOf}
use Rattle.semver_texts.specs.Version.{VersionValue}
use Rattle.npm_semver.proofs.Versions.FullPieces.{full_ends}

-- ---- one start

first_same : (text : List ℕ) (start from : ℕ) (ends other : Ends) (numbers others : List (List ℕ))
    → IsFirstFull text start ends numbers → IsFirstFull text from other others → from ≡ start
first_same text start from ends other numbers others h g = grind arith

as_short : (text : List ℕ) (start : ℕ) (ends : Ends) (numbers : List (List ℕ)) → IsLastFull text start ends numbers
    → IsShortPiece text start ends.build
as_short text start ends numbers h = grind arith

last_same : (text : List ℕ) (start from : ℕ) (ends other : Ends) (numbers others : List (List ℕ))
    → IsLastFull text start ends numbers → IsLastFull text from other others → from ≡ start
last_same text start from ends other numbers others h g = grind (
  arith,
  h.longest from other.build (as_short text from other others g) g.last,
  g.longest start ends.build (as_short text start ends numbers h) h.last,
)

chosen_start : (rtl : Bool) (text : List ℕ) (start from : ℕ) (ends other : Ends) (numbers others : List (List ℕ))
    → IsChosenFull rtl text start ends numbers → IsChosenFull rtl text from other others → from ≡ start
chosen_start rtl = grind (arith, first_same, last_same)

pub chosen_full : (rtl : Bool) (text : List ℕ) (start : ℕ) (ends : Ends) (numbers : List (List ℕ))
    → IsChosenFull rtl text start ends numbers → IsFullPiece text start ends numbers
chosen_full rtl text start ends numbers h = grind arith

-- ---- one version

-- a version of one chosen piece is one of the other
same_version : (rtl : Bool) (text : List ℕ) (start from : ℕ) (ends other : Ends) (numbers others : List (List ℕ))
    (v : VersionValue) → IsChosenFull rtl text start ends numbers → IsChosenFull rtl text from other others
    → IsVersionOf text from other others v → IsVersionOf text start ends numbers v
same_version rtl text start from ends other numbers others v h g version =
    grind (arith, chosen_start, chosen_full, full_ends, same_numbers)

-- none, if the chosen piece has none
pub none_coerced : (rtl : Bool) (text : List ℕ) (start : ℕ) (ends : Ends) (numbers : List (List ℕ))
    → IsChosenFull rtl text start ends numbers → ((v : VersionValue) → ¬ IsVersionOf text start ends numbers v)
    → (v : VersionValue) → ¬ IsCoercedWithPrerelease rtl text v
none_coerced rtl text start ends numbers h none v g = grind (arith, same_version)

pub answer_none : {E : Type 0} (rtl : Bool) (text : List ℕ) (start : ℕ) (ends : Ends) (numbers : List (List ℕ))
    (r : Result (Option VersionValue) E) → IsChosenFull rtl text start ends numbers
    → IfOk r (λ o. IfNone o ((v : VersionValue) → ¬ IsVersionOf text start ends numbers v))
    → IfOk r (λ o. IfNone o ((v : VersionValue) → ¬ IsCoercedWithPrerelease rtl text v))
answer_none rtl text start ends numbers (Err e) h none = tt
answer_none rtl text start ends numbers (Ok (Some v)) h none = tt
answer_none rtl text start ends numbers (Ok None) h none = none_coerced rtl text start ends numbers h none

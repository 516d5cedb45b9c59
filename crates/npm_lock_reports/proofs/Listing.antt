-- Exceptions that are read one after another.
use Rattle.std.proofs.Common.{◌≡◌, ◌+◌, ◌<◌, ◌++◌, ◌∙◌, ℕ, List, [], ◌∷◌, Result, Err, Ok, ap, append_assoc, drop, get_or, length, refl, sym}
use Rattle.toml.specs.Data.{item}
use Rattle.toml.specs.View.{items_view, view}
use Rattle.toml.specs.declared.value.Value.{Value}
use Rattle.toml.proofs.Views.{items_view-drop}
use Rattle.npm_lock_reports.specs.AdvisoryExceptions.{ExceptionValue}
use Rattle.npm_lock_reports.specs.declared.advisory_exceptions.error.ExceptionsError.{ExceptionsError}
use Rattle.npm_lock_reports.specs.declared.advisory_exceptions.error.ExceptionsError.TheVariants as Errors
use Rattle.npm_lock_reports.specs.Reading.{FaultValue, IsRefusedAs, exception_of, items_read, with_first}

-- these exceptions before the others
abbrev pub before : List ExceptionValue → Result (List ExceptionValue) FaultValue → Result (List ExceptionValue) FaultValue
before done (Ok others) = Ok (done ++ others)
before done (Err fault) = Err fault

-- one exception more
pub before-one : (done : List ExceptionValue) (one : ExceptionValue) (rest : Result (List ExceptionValue) FaultValue)
    → before (done ++ (one ∷ [])) rest ≡ before done (with_first (Ok one) rest)
before-one done one (Ok others) = ap Ok (append_assoc done (one ∷ []) others)
before-one done one (Err fault) = refl

-- an exception that is refused refuses the list
pub refused-one : (done : List ExceptionValue) (read : Result ExceptionValue FaultValue)
    (rest whole : Result (List ExceptionValue) FaultValue) (error : ExceptionsError)
    → before done (with_first read rest) ≡ whole → IsRefusedAs read error → IsRefusedAs whole error
refused-one done read rest whole (Errors.Faulty fault _ _) same is =
    sym same ∙ ap (λ one. before done (with_first one rest)) is
refused-one done read rest whole Errors.Memory same is = tt
refused-one done read rest whole (Errors.Input error) same is = absurd is
refused-one done read rest whole Errors.NoUtf8 same is = absurd is
refused-one done read rest whole (Errors.NoToml line column said) same is = absurd is
refused-one done read rest whole Errors.Clock same is = absurd is

-- ---- the items from a place on

module _ (items : List Value) (i : ℕ) (value : Value) (done : List ExceptionValue)
    (whole : Result (List ExceptionValue) FaultValue) (short : i < length items) (is : value ≡ get_or items i value)
    (same : before done (items_read i (items_view (drop i items))) ≡ whole) where
  at_item : before done (with_first (exception_of i (view value)) (items_read (i + 1) (items_view (drop (i + 1) items)))) ≡ whole
  at_item = let step : items_view (drop i items) ≡ item (view value) (items_view (drop (i + 1) items)) =
      items_view-drop items i value short ∙ ap (λ v. item (view v) (items_view (drop (i + 1) items))) (sym is) in
      rw step at same

  pub one-more : (one : ExceptionValue) → exception_of i (view value) ≡ Ok one
      → before (done ++ (one ∷ [])) (items_read (i + 1) (items_view (drop (i + 1) items))) ≡ whole
  one-more one read = before-one done one (items_read (i + 1) (items_view (drop (i + 1) items)))
      ∙ ap (λ it. before done (with_first it (items_read (i + 1) (items_view (drop (i + 1) items))))) (sym read) ∙ at_item

  pub refused-at : (error : ExceptionsError) → IsRefusedAs (exception_of i (view value)) error → IsRefusedAs whole error
  refused-at error refused = refused-one done (exception_of i (view value))
      (items_read (i + 1) (items_view (drop (i + 1) items))) whole error at_item refused

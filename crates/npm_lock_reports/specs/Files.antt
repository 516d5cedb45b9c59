-- The exceptions of a file that is read.
use Rattle.std.specs.Prelude.{◌≡◌, ◌≢◌, ℕ, List, IsSome, IsUtf8, Option, Some}
use Rattle.std.specs.declared.io.ErrorKind.TheVariants.{OutOfMemory}
use Rattle.command_lines.specs.Inputs.{IsWholeInput}
use Rattle.command_lines.specs.WatchedValue.{WatchedValue}
use Rattle.command_lines.specs.declared.input_error.InputError.{InputError}
use Rattle.command_lines.specs.declared.input_error.InputError.TheVariants as Inputs
use Rattle.npm_lock_reports.specs.AdvisoryExceptions.{ExceptionValue}
use Rattle.npm_lock_reports.specs.declared.advisory_exceptions.error.ExceptionsError.{ExceptionsError}
use Rattle.npm_lock_reports.specs.declared.advisory_exceptions.error.ExceptionsError.TheVariants as Errors
use Rattle.npm_lock_reports.specs.Reading.{AreExceptions, IsRefused}

-- a text in UTF-8 was read to its end, and these are its exceptions
abbrev pub AreExceptionsIn : {R : Type 0} → (remaining : R → Option (List ℕ)) → (old new : WatchedValue R)
    → List ExceptionValue → Type 0
AreExceptionsIn remaining old new exceptions =
    IsWholeInput remaining old new (λ bytes. IsUtf8 bytes × AreExceptions bytes exceptions)

-- a read failed
abbrev pub IsReadError : {R : Type 0} → WatchedValue R → InputError → Type 0
IsReadError new Inputs.Read = IsSome new.failure × (new.failure ≢ Some OutOfMemory)
IsReadError new Inputs.Memory = new.failure ≡ Some OutOfMemory
IsReadError new _ = ⊥

-- why there are none: a read failed, or what was read is not in UTF-8 or has another fault, or memory ran out
abbrev pub IsFileRefused : {R : Type 0} → (remaining : R → Option (List ℕ)) → (old new : WatchedValue R)
    → ExceptionsError → Type 0
IsFileRefused remaining old new (Errors.Input error) = IsReadError new error
IsFileRefused remaining old new Errors.NoUtf8 = IsWholeInput remaining old new (λ bytes. ¬ IsUtf8 bytes)
IsFileRefused remaining old new error = IsWholeInput remaining old new (λ bytes. IsUtf8 bytes × IsRefused bytes error)

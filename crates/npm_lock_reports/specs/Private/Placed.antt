-- An error without the place of its fault.
use Rattle.npm_lock_reports.specs.declared.advisory_exceptions.error.ExceptionsError.{ExceptionsError}
use Rattle.npm_lock_reports.specs.declared.advisory_exceptions.error.ExceptionsError.TheVariants as Errors

-- the error, with its fault at line 1, column 1
abbrev pub without_place : ExceptionsError → ExceptionsError
without_place (Errors.Faulty fault _ _) = Errors.Faulty fault 1 1
without_place error = error

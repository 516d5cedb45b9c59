-- Whose keys they are.
use Rattle.std.specs.Prelude.{ℕ, List}
use Rattle.npm_lock_reports.specs.Reading.{exception_keys, file_keys}
use Rattle.npm_lock_reports.specs.declared.advisory_exceptions.keys.Level.{Level}
use Rattle.npm_lock_reports.specs.declared.advisory_exceptions.keys.Level.TheVariants.{Exception, File}

abbrev pub keys_of : Level → List (List ℕ)
keys_of File = file_keys
keys_of Exception = exception_keys

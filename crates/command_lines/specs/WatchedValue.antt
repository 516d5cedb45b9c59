-- What a contract sees of a reader or writer that remembers that a call failed.
use Rattle.std.specs.Prelude.{Option, Result, option_map}
use Rattle.std.specs.Result.{result_err}
use Rattle.std.specs.IoError.{error_kind}
use Rattle.std.specs.declared.io.Error.{Error}
use Rattle.std.specs.declared.io.ErrorKind.{ErrorKind}

-- the reader or writer, and the kind of error of the first call that failed, if one did
pub record WatchedValue (T : Type 0) : Type 0 where
  pub inner : T
  pub failure : Option ErrorKind

-- the kind of the error of a call, if it failed
abbrev pub failure_of : {T : Type 0} → Result T Error → Option ErrorKind
failure_of outcome = option_map error_kind (result_err outcome)

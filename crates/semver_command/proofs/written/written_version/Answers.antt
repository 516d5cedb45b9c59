-- A text that is not read is no version.
use Rattle.semver_command.proofs.written.written_version.Goals as goal

pub returns-in-Err : goal.returns-in-Err
returns-in-Err c = λ v is. c.in-Err.ensures.only v (rw c.bare.ensures is.read)

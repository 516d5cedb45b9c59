-- A text that is not read is no installed version.
use Rattle.npm_texts.proofs.installed.installed_version.Goals as goal

pub returns-in-Err-clause-none : goal.returns-in-Err-clause-none
returns-in-Err-clause-none c = λ v is. c.in-Err.ensures.only v (rw c.bare-written.ensures is.read)

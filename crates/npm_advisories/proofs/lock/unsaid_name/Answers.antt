-- The name of the alias, or that of the folder.
use Rattle.std.proofs.Common.{ap, option_map}
use Rattle.npm_advisories.specs.LockFile.{asked, placed}
use Rattle.npm_advisories.proofs.lock.unsaid_name.Goals as goal

pub returns-in-Some : goal.returns-in-Some
returns-in-Some c = asked c.in-Some.name.now (ap (option_map (λ name. name.now)) c.in-Some.is)

pub returns-in-None : goal.returns-in-None
returns-in-None c = placed c.end_of.result.now (ap (option_map (λ name. name.now)) c.in-None.is) c.end_of.ensures

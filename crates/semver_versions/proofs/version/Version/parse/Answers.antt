use native.Mathlib.Omega.{arith}
use Rattle.std.proofs.Common.{Ok, rules}
use Rattle.semver_versions.proofs.Versions.VersionAnswers.{answer-printed, answer-reads_back, only-answer}
use Rattle.semver_versions.proofs.version.Version.parse.Goals as goal

pub returns-in-Ok-clause-found : goal.returns-in-Ok-clause-found
returns-in-Ok-clause-found c = search rules

pub returns-in-Ok-clause-only : goal.returns-in-Ok-clause-only
returns-in-Ok-clause-only c =
    only-answer c.args.text.now (Ok c.new.result) (returns-in-Ok-clause-found c) tt

pub returns-in-Ok-clause-print : goal.returns-in-Ok-clause-print
returns-in-Ok-clause-print c =
    answer-reads_back c.args.text.now (Ok c.new.result) (returns-in-Ok-clause-found c)

pub returns-in-Ok-clause-printed : goal.returns-in-Ok-clause-printed
returns-in-Ok-clause-printed c =
    answer-printed c.args.text.now (Ok c.new.result) (returns-in-Ok-clause-found c) tt

-- ---- a text that is read in parts

pub returns-in-Err-clause-only : goal.returns-in-Err-clause-only
returns-in-Err-clause-only c = grind (arith, only-answer)

pub returns-in-Err-clause-print : goal.returns-in-Err-clause-print
returns-in-Err-clause-print c = grind (arith, answer-reads_back)

pub returns-in-Err-clause-printed : goal.returns-in-Err-clause-printed
returns-in-Err-clause-printed c = grind (arith, answer-printed)

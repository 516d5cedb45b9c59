use Rattle.std.proofs.Common.{arith}
use Rattle.semver_texts.specs.Lemmas.Public.{whole_text}
use Rattle.semver_sets.proofs.line.put_below.Goals as goal

pub returns-clause-text : goal.returns-clause-text
returns-clause-text c = grind (arith, whole_text)

-- What is returned is what the grammar says.
use Rattle.std.proofs.Common.{rules}
use Rattle.npm_texts.proofs.Specs.SpecReading.{value-written}
use Rattle.npm_texts.proofs.spec.spec_of.Goals as goal

pub returns-in-Some-clause-written : goal.returns-in-Some-clause-written
returns-in-Some-clause-written c = value-written _ _ (search rules)

pub returns-in-None-clause-written : goal.returns-in-None-clause-written
returns-in-None-clause-written c = value-written _ _ (search rules)

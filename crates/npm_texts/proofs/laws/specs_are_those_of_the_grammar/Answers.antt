use Rattle.npm_texts.proofs.Specs.RegistrySpecs.{asked-as_written}
use Rattle.npm_texts.proofs.Specs.SpecReading.{named-as_written, one-spec, spec-as_written}
use Rattle.npm_texts.proofs.laws.specs_are_those_of_the_grammar.Goals as goal

pub returns-clause-read : goal.returns-clause-read
returns-clause-read c = spec-as_written

pub returns-clause-one : goal.returns-clause-one
returns-clause-one c = one-spec

pub returns-clause-named : goal.returns-clause-named
returns-clause-named c = named-as_written

pub returns-clause-asked : goal.returns-clause-asked
returns-clause-asked c = asked-as_written

use Rattle.npm_sets.proofs.Partials.LimitReading.{refused_by_limits}
use Rattle.npm_sets.proofs.Partials.PartialReading.{one_partial, read_as_written}
use Rattle.npm_sets.proofs.laws.partials_are_those_of_the_grammar.Goals as goal

pub returns-clause-read : goal.returns-clause-read
returns-clause-read c = read_as_written

pub returns-clause-one : goal.returns-clause-one
returns-clause-one c = one_partial

pub returns-clause-limits : goal.returns-clause-limits
returns-clause-limits c = refused_by_limits

use Rattle.std.proofs.Common.{sym}
use Rattle.semver_texts.specs.Lemmas.Public.{number-takes}
use Rattle.npm_sets.proofs.partial.read_number_component.Goals as goal

pub returns-clause-sound : goal.returns-clause-sound
returns-clause-sound c =
    (number-takes c.args.text.now c.in_ok-number.number c.in_ok-number.rest.now (sym c.in_ok-number.ensures)).read.limit

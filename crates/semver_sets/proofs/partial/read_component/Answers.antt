use native.Mathlib.Omega.{arith}
use Rattle.semver_sets.proofs.Words.PartialViews.{number-component, number-limit}
use Rattle.semver_sets.proofs.partial.read_component.Goals as goal

pub returns-in-Ok-clause-read : goal.returns-in-Ok-clause-read
returns-in-Ok-clause-read c = number-component c.args.text.now _ _ c.in-Ok.ensures

pub returns-in-Ok-clause-sound : goal.returns-in-Ok-clause-sound
returns-in-Ok-clause-sound c = grind (arith, number-limit)

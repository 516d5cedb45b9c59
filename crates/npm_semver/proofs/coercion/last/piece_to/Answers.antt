use native.Mathlib.Omega.{arith}
use Rattle.npm_semver.proofs.Versions.LastPieces.{one_to, three_to, two_to}
use Rattle.npm_semver.proofs.coercion.last.piece_to.Goals as goal

pub returns-in_default : goal.returns-in_default
returns-in_default c = grind (arith, one_to)

pub returns-in-None : goal.returns-in-None
returns-in-None c = grind (arith, two_to)

pub returns-in-Some-previous_number : goal.returns-in-Some-previous_number
returns-in-Some-previous_number c = grind (arith, three_to)

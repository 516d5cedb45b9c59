use native.Mathlib.Omega.{arith}
use Rattle.npm_semver.proofs.Versions.FullPieces.{build_longer, prerelease_longer}
use Rattle.npm_semver.proofs.coercion.full.full_from.Goals as goal

pub returns-in_default-clause-none : goal.returns-in_default-clause-none
returns-in_default-clause-none c = grind (arith, prerelease_longer)

pub returns-in_default-extra_end-clause-none : goal.returns-in_default-extra_end-clause-none
returns-in_default-extra_end-clause-none c = grind (arith, build_longer)

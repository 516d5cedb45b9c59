use native.Mathlib.Omega.{arith}
use Rattle.semver_versions.specs.Lemmas.Versions.DottedReading.{dotted-both, dotted-first, dotted-second}
use Rattle.semver_versions.proofs.parse.triple.read_minor_and_patch.Goals as goal

pub returns-in_err-minor : goal.returns-in_err-minor
returns-in_err-minor c = grind (arith, dotted-first)

pub returns-in_err-patch : goal.returns-in_err-patch
returns-in_err-patch c = grind (arith, dotted-second)

pub returns : goal.returns
returns c = grind (arith, dotted-both)

use Rattle.npm_semver.proofs.Versions.PrintCoerced.{print_coerced}
use Rattle.npm_semver.proofs.laws.a_print_is_coerced_to_its_triple.Goals as goal

pub returns : goal.returns
returns c = print_coerced

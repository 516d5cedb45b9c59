use Rattle.semver_keys.proofs.VersionReading.{none-second, none-third}
use Rattle.semver_keys.proofs.read.read_triple.Goals as goal

pub returns-in_default-read_number-clause-none : goal.returns-in_default-read_number-clause-none
returns-in_default-read_number-clause-none c =
    none-second _ _ _ c.in-Some.ensures.read c.in_default-read_number.ensures.none

pub returns-in_default-read_number-2-clause-none : goal.returns-in_default-read_number-2-clause-none
returns-in_default-read_number-2-clause-none c = none-third _ _ _ _ _ c.in-Some.ensures.read
    c.in-Some-read_number.ensures.read c.in_default-read_number-2.ensures.none

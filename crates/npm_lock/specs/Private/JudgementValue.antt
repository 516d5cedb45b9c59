-- Judgements of dependencies as values.
use Rattle.std.specs.Prelude.{option_map}
use Rattle.npm_lock.specs.Outcomes.{JudgementValue, fine, unknown, wrong}
use Rattle.npm_lock.specs.declared.outcome.Judgement.{Judgement}
use Rattle.npm_lock.specs.declared.outcome.Judgement.TheVariants as Judgements
use Rattle.npm_packages.specs.PackageValue.{package_value}

-- nothing, or the kind of problem or the reason that it is not checked, with the package that was found
abbrev pub judgement_value : Judgement → JudgementValue
judgement_value Judgements.Fine = fine
judgement_value (Judgements.Wrong kind found) = wrong kind (option_map package_value found)
judgement_value (Judgements.Unknown reason found) = unknown reason (package_value found)

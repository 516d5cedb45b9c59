use Rattle.npm_semver.proofs.Versions.StrictTexts.{one_strict_fault, strict-no_fault}
use Rattle.npm_semver.proofs.laws.a_text_has_one_strict_fault.Goals as goal

pub returns : goal.returns
returns c = record { only = one_strict_fault; never_both = strict-no_fault }

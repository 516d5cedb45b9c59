use Rattle.semver_pairs.proofs.LongerInput.{answers-stay}
use Rattle.semver_pairs.proofs.laws.answers_stay_as_the_input_goes_on.Goals as goal

pub returns : goal.returns
returns c = answers-stay

use Rattle.std.proofs.Common.{arith}
use Rattle.semver_texts.specs.Lemmas.Texts.Places.{skip_one-empty, skip_one-first, skip_one-other}
use Rattle.semver_texts.proofs.parse.skip.skip_one.Goals.{in_default, in_default-2}
use Rattle.semver_texts.proofs.parse.skip.skip_one.Goals as goal

pub returns-in-len1-up : goal.returns-in-len1-up
returns-in-len1-up g c test is_test = grind (arith, skip_one-first)

pub returns : goal.returns
returns g c test is_test = grind (arith, in_default, skip_one-empty, in_default-2, skip_one-other)

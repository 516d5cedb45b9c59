use Rattle.std.proofs.Common.{arith}
use borrow.Author.Tests.{ltb-false, ltb-true}
use Rattle.semver_sets.proofs.Words.WordViews.{none-begins}
use Rattle.semver_sets.proofs.word.begins_comparator.Goals as goal

pub returns-in_default : goal.returns-in_default
returns-in_default c = λ is. none-begins c.args.text.now c.requires (λ some. absurd (omega (arith, ltb-true)))

pub returns-in_default-2 : goal.returns-in_default-2
returns-in_default-2 c = grind (arith, none-begins, ltb-true)

pub returns-in_default-3 : goal.returns-in_default-3
returns-in_default-3 c = grind (arith, none-begins, ltb-false, ltb-true)

pub returns-in_default-4 : goal.returns-in_default-4
returns-in_default-4 c = grind (arith, none-begins, ltb-false)

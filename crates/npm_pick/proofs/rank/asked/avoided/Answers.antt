use Rattle.npm_pick.proofs.Avoiding.{read_answer}
use Rattle.npm_pick.proofs.rank.asked.avoided.Goals as goal

pub returns-in-Some : goal.returns-in-Some
returns-in-Some c =
    rw c.in-Some.is (read_answer c.in-Some.text.now c.range_of.result c.range_of.ensures.refused c.range_of.ensures.means)

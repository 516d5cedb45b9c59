-- A folder of the project is in no `node_modules`.
use Rattle.npm_pick_reports.proofs.Mirrors.{not_is}
use Rattle.npm_pick_reports.proofs.mirror.asks.is_linked.Goals as goal

pub returns-in-Some : goal.returns-in-Some
returns-in-Some c = rw c.in-Some.is (not_is c.is_installed.result c.is_installed.ensures)

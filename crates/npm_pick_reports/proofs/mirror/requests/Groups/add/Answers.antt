-- The list of the name has one text more.
use Rattle.std.proofs.Common.{arith}
use Rattle.std.proofs.lemmas.Map.Text.{text_keys}
use Rattle.npm_pick_reports.proofs.Grouping.{with-named}
use Rattle.npm_pick_reports.proofs.mirror.requests.Groups.add.Goals as goal

pub returns : goal.returns
returns c = λ name. rw (with-named c.args.self.now name c.args.request.now) (grind (arith, text_keys))

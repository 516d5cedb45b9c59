use Rattle.std.proofs.Common.{sym}
use mathlib.Core.Bool.{true≢false}
use Rattle.semver_command.specs.Chosen.{unlike}
use Rattle.semver_command.proofs.chosen.chosen_version.Goals as goal

pub returns-then-not-is_in_all : goal.returns-then-not-is_in_all
returns-then-not-is_in_all c = unlike c.in-Some.version
    (rw (c.in-Ok.ensures.cases.0, c.in-Some.is) at c.in_ok-version.ensures)
    (λ all. true≢false (sym (c.if-not-is_in_all.ensures.1 all)))

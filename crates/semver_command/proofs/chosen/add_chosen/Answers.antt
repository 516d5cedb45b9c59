use Rattle.semver_command.specs.Ranges.{IsInAll}
use Rattle.semver_command.proofs.Gathering.{grows_left, grows_one, on_ok}
use Rattle.semver_command.proofs.chosen.add_chosen.Goals as goal

pub returns-in-Some : goal.returns-in-Some
returns-in-Some g c = on_ok c.add.result
    (grows_one c.args.options (IsInAll c.args.options.include_prerelease c.args.ranges.now) c.args.text.now
    c.in-Some.version c.args.kept.now c.add.new.self (rw c.in-Some.is at c.in_ok-version.ensures)) c.add.ensures

pub returns-in-None : goal.returns-in-None
returns-in-None g c = grows_left c.args.options (IsInAll c.args.options.include_prerelease c.args.ranges.now)
    c.args.text.now c.args.kept.now (rw c.in-None.is at c.in_ok-version.ensures)

use Rattle.semver_command.specs.Ranges.{IsInAll}
use Rattle.semver_command.proofs.Gathering.{lines_more, lines_none, on_ok}
use Rattle.semver_command.proofs.gathered.add_lines.Goals as goal

pub returns-then-is_read : goal.returns-then-is_read
returns-then-is_read g c =
    lines_none c.args.options (IsInAll c.args.options.include_prerelease c.args.ranges.now) c.args.kept.now

pub lines-init : goal.lines-init
lines-init g c =
    lines_none c.args.options (IsInAll c.args.options.include_prerelease c.args.ranges.now) c.args.kept.now

pub returns-in-Last : goal.returns-in-Last
returns-in-Last g c = on_ok c.add_chosen-in-Last.result
    (lines_more c.args.options (IsInAll c.args.options.include_prerelease c.args.ranges.now) c.args.kept.now
    c.lines.kept c.add_chosen-in-Last.new.kept c.deref-in-Last.result.now c.lines.invariant) c.add_chosen-in-Last.ensures

pub lines-preserved : goal.lines-preserved
lines-preserved g c = lines_more c.args.options (IsInAll c.args.options.include_prerelease c.args.ranges.now)
    c.args.kept.now c.lines.kept c.add_chosen.new.kept c.deref.result.now c.lines.invariant c.in_ok-add_chosen-in-Ended.ensures

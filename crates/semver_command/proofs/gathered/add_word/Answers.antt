use Rattle.std.proofs.Common.{◌∙◌, sym}
use Rattle.semver_command.specs.Ranges.{IsInAll}
use Rattle.semver_command.proofs.Gathering.{lines_added, on_ok, word_added}
use Rattle.semver_command.proofs.gathered.add_word.Goals as goal

pub returns-then-eq : goal.returns-then-eq
returns-then-eq g c = on_ok c.add_lines.result
    (lines_added c.args.options (IsInAll c.args.options.include_prerelease c.args.ranges.now) c.args.word.now
    c.args.kept.now c.add_lines.new.kept (sym c.eq.ensures ∙ c.if-eq.true)) c.add_lines.ensures

pub returns : goal.returns
returns g c = on_ok c.add_chosen.result
    (word_added c.args.options (IsInAll c.args.options.include_prerelease c.args.ranges.now) c.args.word.now
    c.args.kept.now c.add_chosen.new.kept (sym c.eq.ensures ∙ c.if-eq.false))
    (rw c.as_bytes.ensures.value at c.add_chosen.ensures)

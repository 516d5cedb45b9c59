use Rattle.std.proofs.Common.{map}
use Rattle.semver_command.specs.Ranges.{IsInAll, text_value}
use Rattle.semver_command.proofs.Answered.{all_listed}
use Rattle.semver_command.proofs.answer.listed.Goals as goal

pub returns : goal.returns
returns g c = all_listed c.args.asked.now.options (map text_value c.args.asked.now.ranges.items)
    (IsInAll c.args.asked.now.options.include_prerelease c.in_ok-ranges.ranges.items)
    (map (λ word. word.now) c.args.asked.now.versions.items) c.in_ok-kept.kept c.put_in_order.new.self
    (rw (c.npm_options.ensures, c.deref.ensures.value) at c.in_ok-ranges.ensures)
    (rw (c.deref-2.ensures.value, c.deref-3.ensures.value) at c.in_ok-kept.ensures) c.put_in_order.ensures

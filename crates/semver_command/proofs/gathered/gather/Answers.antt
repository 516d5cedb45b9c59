use Rattle.std.proofs.Common.{ap, inl, inr, map}
use Rattle.semver_command.specs.Ranges.{IsInAll}
use Rattle.semver_command.proofs.Gathering.{all_gathered}
use Rattle.semver_command.proofs.gathered.gather.Goals as goal

pub returns-then-is_nothing : goal.returns-then-is_nothing
returns-then-is_nothing g c = all_gathered c.args.options
    (IsInAll c.args.options.include_prerelease c.args.ranges.now) (map (λ word. word.now) c.args.words.now)
    c.in_ok-add_lines.ensures.0 c.new-kept.result c.add_lines.new.kept c.new-kept.ensures
    (inl (ap (map (λ word. word.now)) c.if-is_nothing.ensures)) c.in_ok-add_lines.ensures.1

pub returns : goal.returns
returns g c = all_gathered c.args.options (IsInAll c.args.options.include_prerelease c.args.ranges.now)
    (map (λ word. word.now) c.args.words.now) c.in_ok-add_words.ensures.0 c.new-kept.result c.add_words.new.kept
    c.new-kept.ensures (inr c.in_ok-add_words.ensures.1) c.in_ok-add_words.ensures.2

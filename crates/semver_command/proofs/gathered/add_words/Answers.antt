use Rattle.std.proofs.Common.{[]}
use Rattle.semver_command.specs.Ranges.{IsInAll}
use Rattle.semver_command.proofs.Gathering.{words_done, words_more}
use Rattle.semver_command.proofs.gathered.add_words.Goals as goal

pub loop-word-preserved : goal.loop-word-preserved
loop-word-preserved g c = words_more (λ word. word.now) c.args.options
    (IsInAll c.args.options.include_prerelease c.args.ranges.now) c.args.words.now c.loop-word.word-index
    (record { ref_ptr = (0, 0); now = [] }) c.args.kept.now c.loop-word.kept c.add_word.new.kept c.loop-word-test.true
    c.in_ok-add_word.ensures c.loop-word.invariant

pub returns : goal.returns
returns g c = words_done (λ word. word.now) c.args.options
    (IsInAll c.args.options.include_prerelease c.args.ranges.now) c.args.words.now c.loop-word.word-index
    c.args.kept.now c.loop-word.kept c.loop-word-test.false c.loop-word.invariant

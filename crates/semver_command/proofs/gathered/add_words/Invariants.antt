-- The words that are left come after those that were added.
use Rattle.semver_command.specs.Ranges.{IsInAll}
use Rattle.semver_command.proofs.Gathering.{WordsLeft}
use Rattle.semver_command.proofs.gathered.add_words.Given as goal

abbrev pub invariant-loop-word : goal.invariant-loop-word
invariant-loop-word g l = WordsLeft (λ word. word.now) l.options (IsInAll l.options.include_prerelease l.ranges)
    l.words l.word-index l.fn.kept l.kept

-- The words that are left decide.
use Rattle.std.proofs.Common.{◌≡◌, drop, map}
use Rattle.npm_lock_check.specs.Kinds.{is_among}
use Rattle.npm_lock_check.proofs.checks.kinds.is_among.Given as goal

abbrev pub invariant-loop-word : goal.invariant-loop-word
invariant-loop-word l = is_among (map (λ word. word.now) l.words) l.wanted
    ≡ is_among (map (λ word. word.now) (drop l.word-index l.words)) l.wanted

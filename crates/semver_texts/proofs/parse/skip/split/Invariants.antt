use Rattle.std.proofs.Common.{ℕ, Bool}
use Rattle.semver_texts.specs.Reading.{IsTest}
use Rattle.semver_texts.specs.Lemmas.Texts.Places.{Over}
use Rattle.semver_texts.proofs.parse.skip.split.Given as goal

-- the bytes so far pass
abbrev pub invariant-run : goal.invariant-run
invariant-run g l =
    goal.F-IsAlwaysCallable g l.passes
    × ((test : ℕ → Bool) → IsTest (goal.F-post g l.passes) test → Over test l.text l.i)

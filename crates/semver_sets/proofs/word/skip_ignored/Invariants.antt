use Rattle.std.proofs.Common.{List, length}
use Rattle.semver_texts.specs.Characters.{BeginsWithNo, is_blank}
use Rattle.semver_sets.specs.Comparator.{Comparator}
use Rattle.semver_sets.specs.Division.{IsAlternative}
use Rattle.semver_sets.proofs.word.skip_ignored.Given as goal

abbrev pub invariant-words : goal.invariant-words
invariant-words l = record {
  solid : BeginsWithNo is_blank l.rest;
  later : (comparators : List Comparator) → IsAlternative l.rest comparators → IsAlternative l.text comparators;
}

abbrev pub decreases-words : goal.decreases-words
decreases-words l = length l.rest

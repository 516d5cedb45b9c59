use Rattle.std.proofs.Common.{List, length}
use Rattle.semver_texts.specs.Characters.{BeginsWithNo, is_blank}
use Rattle.semver_sets.specs.Comparator.{Comparator}
use Rattle.semver_sets.specs.Private.RangeViews.{IsCommonSpan}
use Rattle.semver_sets.proofs.Ranges.DivisionLemmas.{Completes}
use Rattle.semver_sets.proofs.read.alternative.merge_words.Given as goal

abbrev pub invariant-loop-rest : goal.invariant-loop-rest
invariant-loop-rest l = record {
  done : List Comparator;
  read : Completes l.text done l.rest;
  is_common : IsCommonSpan done l.common;
  solid : BeginsWithNo is_blank l.rest;
}

abbrev pub decreases-loop-rest : goal.decreases-loop-rest
decreases-loop-rest l = length l.rest

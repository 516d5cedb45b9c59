use native.Mathlib.Omega.{arith}
use Rattle.std.proofs.Common.{List, subst, sym}
use Rattle.semver_cuts.specs.Ends.{Ends}
use Rattle.semver_cuts.specs.Starts.{count_of_starts}
use Rattle.semver_texts.specs.Comparison.{version_cmp}
use Rattle.semver_sets.specs.Searching.{HasDigits}
use Rattle.semver_texts.specs.Version.{VersionValue}
use Rattle.semver_sets.proofs.Sets.Inside.{inside-contains}
use Rattle.semver_sets.proofs.set_list.indexed.IndexedSets.contains.Goals as goal

pub returns-clause-answer : goal.returns-clause-answer
returns-clause-answer g c = grind (arith, inside-contains)

pub returns-clause-short : goal.returns-clause-short
returns-clause-short g c = record {
  adds = c.is_in_some.ensures.adds;
  short = λ digits fits. c.is_in_some.ensures.short digits
      (subst (λ (l : List (Ends VersionValue)). HasDigits (count_of_starts version_cmp l) digits)
      (sym c.merged.ensures) fits);
  contained = λ is. c.is_in_some.ensures.admitted ((returns-clause-answer g c).1 is);
}

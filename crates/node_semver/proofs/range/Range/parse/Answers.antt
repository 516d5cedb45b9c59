use native.Mathlib.Omega.{arith}
use Rattle.std.proofs.Common.{List, ℕ, subst}
use Rattle.semver_sets.specs.Meaning.{IsRefused}
use Rattle.semver_sets.specs.Merging.{AreSetsOfText}
use Rattle.semver_sets.specs.RangeSets.{sets_seen}
use Rattle.node_semver.proofs.Ranges.RangeAnswers.{full-read, range-read, range-refused}
use Rattle.node_semver.proofs.range.Range.parse.Goals as goal

-- `^1.2.3`
pub returns-in-Some : goal.returns-in-Some
returns-in-Some c =
    full-read c.a_text_means_its_sets.ensures c.prints_are_read_back.ensures c.args.text.now _ _ _ _ _
    c.full_set.result c.of_sets.result c.as_bytes-bytes.ensures.value c.in-Some.ensures c.full_set.ensures
    c.of_sets.ensures

-- any other text
pub returns-in-Ok : goal.returns-in-Ok
returns-in-Ok c =
    let sets = sets_seen c.in-Ok.sets in
    range-read c.a_text_means_its_sets.ensures c.prints_are_read_back.ensures c.args.text.now sets
    (subst (λ (t : List ℕ). AreSetsOfText t sets) c.as_bytes-bytes.ensures.value c.in-Ok.ensures.sets)
    c.in-Ok.ensures.holds

pub unread_error-requires : goal.unread_error-requires
unread_error-requires c = λ is. subst IsRefused c.as_bytes-bytes.ensures.value (c.in-Err.ensures.refused is)

pub returns-in-Err : goal.returns-in-Err
returns-in-Err c = grind (arith, range-refused)

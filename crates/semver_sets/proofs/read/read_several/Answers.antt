use Rattle.std.proofs.Common.{◌≡◌, ◌<◌, ◌∙◌, ℕ, List, [], ◌∷◌, ◌++◌, Option, Some, ap, subst, sym}
use Rattle.semver_cuts.specs.Ends.{Ends}
use Rattle.semver_texts.specs.Characters.{is_blank}
use Rattle.semver_texts.specs.Reading.{rest_of}
use Rattle.semver_texts.specs.Version.{VersionValue}
use Rattle.semver_sets.specs.Merging.{AreSetsOf, none}
use Rattle.semver_sets.specs.Private.PieceReading.{some_seen}
use Rattle.semver_sets.specs.Private.RangeViews.{IsSetOfAlternative, listed_set}
use Rattle.semver_sets.proofs.Ranges.AlternativeLemmas.{Reads, left-shorter, left_length, reads-more, reads-start}
use Rattle.semver_sets.proofs.Ranges.RangeReading.{all-read, none-gathered, some-gathered}
use Rattle.semver_sets.proofs.Sets.SetLemmas.{reads-set}
use Rattle.semver_sets.proofs.read.read_several.Goals as goal

pub loop-left-init : goal.loop-left-init
loop-left-init c = λ text divided.
    let more = c.in_ok-add_alternative.ensures in
    let first = c.args.first.now in
    let read = reads-set first [] [] more.0 none more.1 in
    let reads = reads-start text first (Some c.args.others.now) read.comparators (sym divided) read.alternative in
    let same : c.add_alternative.new.sets ≡ listed_set more.0 =
    more.2 ∙ ap (λ (l : List (Ends VersionValue)). l ++ listed_set more.0) c.new-sets.ensures in
    (read.comparators ∷ [], reads, subst (AreSetsOf (read.comparators ∷ [])) (sym same) read.merged)

pub loop-left-smaller : goal.loop-left-smaller
loop-left-smaller c =
    let left : some_seen c.loop-left.left ≡ Some c.in-Some.rest.now = ap some_seen c.in-Some.is in
    let shorter = left-shorter c.in-Some.rest.now c.next_piece.result.0.now (some_seen c.next_piece.result.1)
    (sym c.next_piece.ensures) in
    subst (λ (l : Option (List ℕ)). left_length (some_seen c.next_piece.result.1) < left_length l) (sym left) shorter

pub loop-left-preserved : goal.loop-left-preserved
loop-left-preserved c = λ text divided.
    let before = c.loop-left.invariant text divided in
    let done = before.0 in
    let more = c.in_ok-add_alternative-2.ensures in
    let piece = c.next_piece.result.0.now in
    let left : some_seen c.loop-left.left ≡ Some c.in-Some.rest.now = ap some_seen c.in-Some.is in
    let reads : Reads text done (Some c.in-Some.rest.now) = subst (Reads text done) left before.1 in
    let is_more : IsSetOfAlternative (rest_of is_blank piece) more.0 =
    subst (λ (l : List ℕ). IsSetOfAlternative l more.0) c.skip_blanks.ensures more.1 in
    let read = reads-set (rest_of is_blank piece) done c.loop-left.sets more.0 before.2 is_more in
    let next = reads-more text done c.in-Some.rest.now piece (some_seen c.next_piece.result.1) read.comparators
    reads (sym c.next_piece.ensures) read.alternative in
    (done ++ read.comparators ∷ [], next, subst (AreSetsOf (done ++ read.comparators ∷ [])) (sym more.2) read.merged)

pub returns-in-Ok-Some : goal.returns-in-Ok-Some
returns-in-Ok-Some c = λ text divided.
    let all = c.loop-left.invariant text divided in
    let are = all-read text all.0 c.loop-left.sets (some_seen c.loop-left.left) all.1 (ap some_seen c.in_default.is)
    all.2 in
    some-gathered text c.loop-left.sets _ c.in-Ok-Some.sets are c.in-Ok-Some.ensures.sets c.in-Ok-Some.ensures.some
    c.in-Ok-Some.field-0-is

pub returns-in-Ok-None : goal.returns-in-Ok-None
returns-in-Ok-None c = λ text divided.
    let all = c.loop-left.invariant text divided in
    let are = all-read text all.0 c.loop-left.sets (some_seen c.loop-left.left) all.1 (ap some_seen c.in_default.is)
    all.2 in
    none-gathered text c.loop-left.sets _ are c.in-Ok-None.ensures.sets c.in-Ok-None.field-0-is

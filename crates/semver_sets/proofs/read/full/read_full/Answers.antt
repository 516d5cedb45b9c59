use Rattle.std.proofs.Common.{arith}
use Rattle.semver_sets.proofs.Words.PartialViews.{behind-first, dotted-number, full-numbers}
use Rattle.semver_sets.proofs.Words.WordViews.{no-bytes}
use Rattle.semver_sets.proofs.Ranges.FullRange.{caret-full, plain-full, tilde-full}
use Rattle.semver_sets.proofs.read.full.read_full.Goals as goal
use Rattle.semver_sets.proofs.read.full.read_full.Goals.{in-94, in-126, in_default}

pub returns : goal.returns
returns c =
    let text = c.args.text.now in
    let one = dotted-number _ c.in-Ok-default-eq46.field-0-1.now _ c.in-Ok-default-eq46.ensures (omega arith)
    (omega arith) in
    let two = dotted-number _ c.in-Ok-default-eq46-read_number.field-0-1.now _ c.in-Ok-default-eq46-read_number.ensures
    (omega arith) (omega arith) in
    let end = no-bytes c.in-Ok-default-empty.field-0-1.now c.in-Ok-default-empty.len_below in
    let numbers = full-numbers c.if-text-lt1.lead.1.now _ _ _ _ _ one two (rw end at c.in-Ok-default-empty.ensures) in
    let form = c.full_form.ensures in
    elim c.if-text-lt1.branch [
      | in-94 w ↦ caret-full text _ _ _ _ _ (behind-first 94 text (omega arith) (omega arith)) (rw w.lead-is at numbers)
          (rw w.lead-is at form)
      | in-126 w ↦ tilde-full text _ _ _ _ _ (behind-first 126 text (omega arith) (omega arith))
          (rw w.lead-is at numbers) (rw w.lead-is at form)
      | in_default w ↦ plain-full text _ _ _ _ (rw w.lead-is at numbers) (rw w.lead-is at form)
    ]

use Rattle.std.proofs.Common.{◌≡◌, [], Some, Option, ap, arith, ◌∙◌}
use borrow.Author.Tests.{ltb-true}
use Rattle.semver_sets.specs.Comparator.{Comparator}
use Rattle.semver_sets.specs.Private.WordReading.{Word, no_lead}
use Rattle.semver_sets.specs.Private.WordViews.{lead_seen}
use Rattle.semver_sets.proofs.Words.WordViews.{ignored, kept, no-bytes, none-missing, plain-seen, word-led, word-plain}
use Rattle.semver_sets.proofs.word.read_word.Goals as goal
use Rattle.semver_sets.proofs.word.read_word.Goals.{in_default-2-via-in-Plain+then-rest-lt1}
use Rattle.semver_sets.proofs.word.read_word.Goals.{in_default-2-via-in_default}

pub returns-in_default : goal.returns-in_default
returns-in_default c =
    let missing = none-missing c.args.text.now _ _ c.requires c.read_lead-lead.ensures c.in_default.ensures.read in
    rw (c.skip_to_blank.ensures) (ignored c.args.text.now missing)

pub returns-in-Plain-len1-up : goal.returns-in-Plain-len1-up
returns-in-Plain-len1-up c =
    let led = rw c.in-Plain-len1-up.is-0 at c.read_lead-lead.ensures in
    kept c.args.text.now _
    (c.plain_or_hyphen.ensures ∙ word-plain c.args.text.now _ _ _ c.requires led c.in-Some.ensures.read)

pub returns-in_default-2 : goal.returns-in_default-2
returns-in_default-2 c =
    let rest = c.in-Some.rest.now in
    let end : lead_seen c.read_lead-lead.result.0 ≡ no_lead → rest ≡ [] = λ plain. elim c.in_default-2.branch [
      | in_default-2-via-in-Plain+then-rest-lt1 w ↦ no-bytes rest (omega (arith, ltb-true))
      | in_default-2-via-in_default w ↦ absurd (w.in_default-2.not-Plain-0 (plain-seen _ plain))
    ] in
    let word : Option Comparator → Option Word = λ x. Some (x, rest) in
    kept c.args.text.now _
    (ap word c.lead_ends.ensures
    ∙ word-led c.args.text.now _ rest _ _ c.requires c.read_lead-lead.ensures c.in-Some.ensures.read end)

use Rattle.std.proofs.Common.{◌≡◌, codes, refl, true, inl, inr}
use Rattle.semver_pairs.specs.Answer.{admitted, bad_range, bad_version, turned_away}
use Rattle.semver_pairs.proofs.answering.answer_of.Goals as goal

pub returns-in_default-clause-answer : goal.returns-in_default-clause-answer
returns-in_default-clause-answer c = λ line reads. (codes "bad range", bad_range (rw c.in_default.is at reads), refl)

pub returns-in_default-text_of-clause-answer : goal.returns-in_default-text_of-clause-answer
returns-in_default-text_of-clause-answer c = λ line reads.
    let range = rw c.in-Some.is at reads in
    (codes "bad version", bad_version range.0 (inl c.in_default-text_of.ensures.none), refl)

pub returns-in-Ok-clause-answer : goal.returns-in-Ok-clause-answer
returns-in-Ok-clause-answer c = λ line reads.
    let range = rw c.in-Some.is at reads in
    let text = c.in-Some-text_of.ensures.text in
    let read = rw text.0 at (rw c.in-Ok.is at c.parse.ensures.found) in (
      codes "yes",
      admitted c.in-Ok.version range.0 (text.1, read)
          ((range.1 c.in-Ok.version).0 (c.satisfies.ensures.0 c.if-satisfies.true)),
      refl,
    )

pub returns-in-Ok-2-clause-answer : goal.returns-in-Ok-2-clause-answer
returns-in-Ok-2-clause-answer c = λ line reads.
    let range = rw c.in-Some.is at reads in
    let text = c.in-Some-text_of.ensures.text in
    let read = rw text.0 at (rw c.in-Ok.is at c.parse.ensures.found) in (
      codes "no",
      turned_away c.in-Ok.version range.0 (text.1, read)
          (λ h. let yes : c.satisfies.result ≡ true = c.satisfies.ensures.1 ((range.1 c.in-Ok.version).1 h) in
          cc (yes, c.if-satisfies.false)),
      refl,
    )

pub returns-in-Err-clause-answer : goal.returns-in-Err-clause-answer
returns-in-Err-clause-answer c = λ line reads.
    let range = rw c.in-Some.is at reads in
    let text = c.in-Some-text_of.ensures.text in (
      codes "bad version",
      bad_version range.0 (inr (λ v h. rw c.in-Err.is at (c.parse.ensures.only v (rw text.0 h)))),
      refl,
    )

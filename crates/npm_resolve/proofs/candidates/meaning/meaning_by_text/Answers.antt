-- The text is a version, a range, a tag or none of these.
use Rattle.std.proofs.Common.{◌≡◌, ◌∙◌, ap, refl, sym}
use Rattle.std.proofs.lemmas.Result.{IfOk-weaker}
use Rattle.npm_resolve.specs.Meanings.{inside, nothing, of_range, of_tag, of_version, only, refused}
use Rattle.npm_resolve.proofs.candidates.meaning.meaning_by_text.Goals as goal

pub returns-in-Some : goal.returns-in-Some
returns-in-Some c =
    (_, of_version c.in-Some.version c.in-Some.ensures.found, ap only (sym c.in_ok-text_of.ensures))

pub returns-in-Some-2 : goal.returns-in-Some-2
returns-in-Some-2 c =
    let none = rw c.in_default.is at c.installed_version.ensures.none in
    let accepted = rw c.in-Some-2.is at c.in_ok-range.ensures.accepted in
    let means = rw c.in-Some-2.is at c.in_ok-range.ensures.means in
    (inside c.args.text.now, of_range none accepted, (c.args.text.now, refl, sym c.eq.ensures ∙ c.if-eq.true, means))

pub returns-in-Some-2-2 : goal.returns-in-Some-2-2
returns-in-Some-2-2 c =
    let none = rw c.in_default.is at c.installed_version.ensures.none in
    let accepted = rw c.in-Some-2.is at c.in_ok-range.ensures.accepted in
    let means = rw c.in-Some-2.is at c.in_ok-range.ensures.means in
    (inside c.args.text.now, of_range none accepted, (c.args.text.now, refl, sym c.eq.ensures ∙ c.if-eq.false, means))

pub returns-in-None : goal.returns-in-None
returns-in-None c =
    let none = rw c.in_default.is at c.installed_version.ensures.none in
    let no_range = rw c.in-None.is at c.in_ok-range.ensures.refused in
    IfOk-weaker c.meaning_by_tag.result _ _
    (λ meaning read. (read.0, of_tag read.0 none no_range (sym c.is_tag.ensures ∙ c.if-is_tag.true) read.1, read.2))
    c.meaning_by_tag.ensures

pub returns-in-None-2 : goal.returns-in-None-2
returns-in-None-2 c =
    let none = rw c.in_default.is at c.installed_version.ensures.none in
    let no_range = rw c.in-None.is at c.in_ok-range.ensures.refused in
    (nothing, refused none no_range (sym c.is_tag.ensures ∙ c.if-is_tag.false), refl)

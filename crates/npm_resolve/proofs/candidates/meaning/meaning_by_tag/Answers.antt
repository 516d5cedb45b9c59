-- There is no such tag, its version is in time, or it is too late.
use Rattle.std.proofs.Common.{◌≡◌, ◌∙◌, Some, ap, false, option_map, refl, sym}
use Rattle.serde_json.specs.View.{view}
use Rattle.npm_pick.specs.Packument.{tagged}
use Rattle.npm_pick.specs.Times.{is_published}
use Rattle.npm_pick.specs.Wanted.{up_to}
use Rattle.npm_resolve.specs.Meanings.{earlier, inside, named, no_tag, nothing, odd, only}
use Rattle.npm_resolve.proofs.candidates.meaning.meaning_by_tag.Goals as goal

pub returns-in_default : goal.returns-in_default
returns-in_default c = (nothing, no_tag (sym c.tagged.ensures ∙ ap (option_map (λ key. key.now)) c.in_default.is), refl)

pub returns-then-is_published : goal.returns-then-is_published
returns-then-is_published c =
    let tag : tagged (view c.args.packument.now) c.args.tag.now ≡ Some c.in-Some.key.now =
    sym c.tagged.ensures ∙ ap (option_map (λ key. key.now)) c.in-Some.is in (
      only c.in-Some.key.now,
      named c.in-Some.key.now tag (sym c.is_published.ensures ∙ c.if-is_published.true),
      ap only (sym c.in_ok-from_str.ensures.ok),
    )

pub returns-in-Some-2 : goal.returns-in-Some-2
returns-in-Some-2 c =
    let tag : tagged (view c.args.packument.now) c.args.tag.now ≡ Some c.in-Some.key.now =
    sym c.tagged.ensures ∙ ap (option_map (λ key. key.now)) c.in-Some.is in
    let late : is_published c.args.before (view c.args.packument.now) c.in-Some.key.now ≡ false =
    sym c.is_published.ensures ∙ c.if-is_published.false in
    let text : c.as_str.result.now ≡ up_to c.in-Some.key.now = c.as_str.ensures.value ∙ c.in_ok-text.ensures in
    let accepted = rw text at (rw c.in-Some-2.is at c.in_ok-range.ensures.accepted) in
    let means = rw text at (rw c.in-Some-2.is at c.in_ok-range.ensures.means) in (
      inside (up_to c.in-Some.key.now),
      earlier c.in-Some.key.now tag late accepted,
      (up_to c.in-Some.key.now, refl, refl, means),
    )

pub returns : goal.returns
returns c =
    let tag : tagged (view c.args.packument.now) c.args.tag.now ≡ Some c.in-Some.key.now =
    sym c.tagged.ensures ∙ ap (option_map (λ key. key.now)) c.in-Some.is in
    let late : is_published c.args.before (view c.args.packument.now) c.in-Some.key.now ≡ false =
    sym c.is_published.ensures ∙ c.if-is_published.false in
    let text : c.as_str.result.now ≡ up_to c.in-Some.key.now = c.as_str.ensures.value ∙ c.in_ok-text.ensures in
    let refused = rw text at (rw c.in-None.is at c.in_ok-range.ensures.refused) in
    (nothing, odd c.in-Some.key.now tag late refused, refl)

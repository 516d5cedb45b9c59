-- There is no such tag, its version is in time, or it is too late.
use Rattle.std.proofs.Common.{◌≡◌, ◌∙◌, Some, ap, false, inl, inr, option_map, sym}
use Rattle.serde_json.specs.View.{view}
use Rattle.npm_pick.specs.Packument.{tagged}
use Rattle.npm_pick.specs.Pick.{answer_value, earlier, named, no_tag, odd}
use Rattle.npm_pick.specs.Times.{is_published}
use Rattle.npm_pick.specs.Wanted.{up_to}
use Rattle.npm_pick.proofs.picked.pick_by_tag.Goals as goal

pub returns-in_default : goal.returns-in_default
returns-in_default c = inr (no_tag (sym c.tagged.ensures ∙ ap (option_map (λ key. key.now)) c.in_default.is))

pub returns-then-is_published : goal.returns-then-is_published
returns-then-is_published c =
    let tag : tagged (view c.args.packument.now) c.args.tag.now ≡ Some c.in-Some.key.now =
    sym c.tagged.ensures ∙ ap (option_map (λ key. key.now)) c.in-Some.is in
    elim c.pick_at.ensures [
      | inl memory ↦ inl memory
      | inr h ↦ inr (named c.in-Some.key.now (answer_value c.pick_at.result) tag
          (sym c.is_published.ensures ∙ c.if-is_published.true) h)
    ]

pub pick_in-requires : goal.pick_in-requires
pick_in-requires c =
    let means = rw c.in-Some-2.is at c.in_ok-range.ensures.means in
    rw (c.as_str-in-Some-2.ensures.value, ← c.as_str.ensures.value) means

pub returns-in-Some-2 : goal.returns-in-Some-2
returns-in-Some-2 c =
    let tag : tagged (view c.args.packument.now) c.args.tag.now ≡ Some c.in-Some.key.now =
    sym c.tagged.ensures ∙ ap (option_map (λ key. key.now)) c.in-Some.is in
    let late : is_published c.args.options.now.before (view c.args.packument.now) c.in-Some.key.now ≡ false =
    sym c.is_published.ensures ∙ c.if-is_published.false in
    let text : c.as_str.result.now ≡ up_to c.in-Some.key.now = c.as_str.ensures.value ∙ c.in_ok-text.ensures in
    let again : c.as_str-in-Some-2.result.now ≡ up_to c.in-Some.key.now =
    c.as_str-in-Some-2.ensures.value ∙ c.in_ok-text.ensures in
    let accepted = rw text at (rw c.in-Some-2.is at c.in_ok-range.ensures.accepted) in
    elim c.pick_in.ensures [
      | inl memory ↦ inl memory
      | inr h ↦ inr (earlier c.in-Some.key.now (answer_value c.pick_in.result) tag late accepted (rw again at h))
    ]

pub returns : goal.returns
returns c =
    let tag : tagged (view c.args.packument.now) c.args.tag.now ≡ Some c.in-Some.key.now =
    sym c.tagged.ensures ∙ ap (option_map (λ key. key.now)) c.in-Some.is in
    let late : is_published c.args.options.now.before (view c.args.packument.now) c.in-Some.key.now ≡ false =
    sym c.is_published.ensures ∙ c.if-is_published.false in
    let text : c.as_str.result.now ≡ up_to c.in-Some.key.now = c.as_str.ensures.value ∙ c.in_ok-text.ensures in
    let refused = rw text at (rw c.in-None.is at c.in_ok-range.ensures.refused) in
    inr (odd c.in-Some.key.now tag late refused)

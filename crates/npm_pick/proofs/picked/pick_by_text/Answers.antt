-- The text is a version, a range, a tag or none of these.
use Rattle.std.proofs.Common.{◌∙◌, inl, inr, sym}
use Rattle.npm_pick.specs.Pick.{answer_value, range, refused, tag, version}
use Rattle.npm_pick.proofs.picked.pick_by_text.Goals as goal

pub returns-in-Some : goal.returns-in-Some
returns-in-Some c = elim c.pick_version.ensures [
  | inl memory ↦ inl memory
  | inr h ↦ inr (version c.in-Some.version (answer_value c.pick_version.result) c.in-Some.ensures.found h)
]

pub returns-in-Some-2 : goal.returns-in-Some-2
returns-in-Some-2 c =
    let none = rw c.in_default.is at c.installed_version.ensures.none in
    let accepted = rw c.in-Some-2.is at c.in_ok-range.ensures.accepted in
    elim c.pick_in.ensures [
      | inl memory ↦ inl memory
      | inr h ↦ inr (range (answer_value c.pick_in.result) none accepted h)
    ]

pub returns-in-None : goal.returns-in-None
returns-in-None c =
    let none = rw c.in_default.is at c.installed_version.ensures.none in
    let no_range = rw c.in-None.is at c.in_ok-range.ensures.refused in
    elim c.pick_by_tag.ensures [
      | inl memory ↦ inl memory
      | inr h ↦ inr (tag (answer_value c.pick_by_tag.result) none no_range
          (sym c.is_tag.ensures ∙ c.if-is_tag.true) h)
    ]

pub returns-in-None-2 : goal.returns-in-None-2
returns-in-None-2 c =
    let none = rw c.in_default.is at c.installed_version.ensures.none in
    let no_range = rw c.in-None.is at c.in_ok-range.ensures.refused in
    inr (refused none no_range (sym c.is_tag.ensures ∙ c.if-is_tag.false))

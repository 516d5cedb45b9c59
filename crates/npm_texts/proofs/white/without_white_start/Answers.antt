-- The first character that is left is white space, or the text begins with it.
use Rattle.std.proofs.Common.{◌≡◌, ◌∙◌, ◌∷◌, [], IsUtf8, ap, chars, sym}
use Rattle.std.proofs.lemmas.List.{nil_from_length}
use Rattle.std.proofs.lemmas.Str.{chars-nil, chars_past_char}
use Rattle.std.specs.Str.Iter.{chars_rest}
use Rattle.npm_texts.specs.WhiteSpace.{is_white, without_start}
use Rattle.npm_texts.proofs.BareTexts.{start-goes, start-stays}
use Rattle.npm_texts.proofs.white.without_white_start.Goals as goal

pub white-preserved : goal.white-preserved
white-preserved c =
    let utf8 : IsUtf8 (chars_rest c.white.left) = rw c.as_str-rest.ensures at c.as_str-rest.utf8 in
    let past : chars (chars_rest c.white.left) ≡ c.in-Some.c ∷ chars (chars_rest c.next.new.self) =
    chars_past_char (chars_rest c.white.left) (chars_rest c.next.new.self) c.in-Some.c utf8 c.in-Some.ensures.steps.0 in
    sym (start-goes is_white c.in-Some.c (chars (chars_rest c.next.new.self)) (sym c.is_white.ensures.white ∙ c.if-is_white.true))
    ∙ ap (without_start is_white) (sym past) ∙ c.white.invariant

pub returns-in_default : goal.returns-in_default
returns-in_default c =
    let utf8 : IsUtf8 (chars_rest c.white.left) = rw c.as_str-rest.ensures at c.as_str-rest.utf8 in
    let past : chars (chars_rest c.white.left) ≡ c.in-Some.c ∷ chars (chars_rest c.next.new.self) =
    chars_past_char (chars_rest c.white.left) (chars_rest c.next.new.self) c.in-Some.c utf8 c.in-Some.ensures.steps.0 in
    ap chars c.as_str-rest.ensures ∙ past
    ∙ sym (start-stays is_white c.in-Some.c (chars (chars_rest c.next.new.self)) (sym c.is_white.ensures.white ∙ c.if-is_white.false))
    ∙ ap (without_start is_white) (sym past) ∙ c.white.invariant

pub returns-in_default-2 : goal.returns-in_default-2
returns-in_default-2 c =
    let none : chars (chars_rest c.white.left) ≡ [] =
    ap chars (nil_from_length (chars_rest c.white.left) c.in_default.ensures.steps.0.0) ∙ chars-nil in
    ap chars c.as_str-rest.ensures ∙ none ∙ ap (without_start is_white) (sym none) ∙ c.white.invariant

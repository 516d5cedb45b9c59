-- The last character that is left is white space, or the text ends with it.
use Rattle.std.proofs.Common.{◌≡◌, ◌∙◌, ◌∷◌, ◌++◌, [], IsUtf8, ap, chars, sym}
use Rattle.std.proofs.lemmas.List.{nil_from_length}
use Rattle.std.proofs.lemmas.Str.{chars-nil}
use Rattle.std.specs.Str.Iter.{chars_rest}
use Rattle.npm_texts.specs.WhiteSpace.{is_white, without_end}
use Rattle.npm_texts.proofs.BareTexts.{end-goes, end-stays, last_char}
use Rattle.npm_texts.proofs.white.without_white_end.Goals as goal

pub white-preserved : goal.white-preserved
white-preserved c =
    let utf8 : IsUtf8 (chars_rest c.white.left) = rw c.as_str-front.ensures at c.as_str-front.utf8 in
    let last : chars (chars_rest c.white.left) ≡ chars (chars_rest c.next_back.new.self) ++ (c.in-Some.c ∷ []) =
    last_char (chars_rest c.white.left) (chars_rest c.next_back.new.self) c.in-Some.c utf8 c.is_white.ensures.scalar
    c.in-Some.ensures.steps in
    sym (end-goes is_white (chars (chars_rest c.next_back.new.self)) c.in-Some.c
    (sym c.is_white.ensures.white ∙ c.if-is_white.true)) ∙ ap (without_end is_white) (sym last) ∙ c.white.invariant

pub returns-in_default : goal.returns-in_default
returns-in_default c =
    let utf8 : IsUtf8 (chars_rest c.white.left) = rw c.as_str-front.ensures at c.as_str-front.utf8 in
    let last : chars (chars_rest c.white.left) ≡ chars (chars_rest c.next_back.new.self) ++ (c.in-Some.c ∷ []) =
    last_char (chars_rest c.white.left) (chars_rest c.next_back.new.self) c.in-Some.c utf8 c.is_white.ensures.scalar
    c.in-Some.ensures.steps in
    ap chars c.as_str-front.ensures ∙ last
    ∙ sym (end-stays is_white (chars (chars_rest c.next_back.new.self)) c.in-Some.c
    (sym c.is_white.ensures.white ∙ c.if-is_white.false)) ∙ ap (without_end is_white) (sym last) ∙ c.white.invariant

pub returns-in_default-2 : goal.returns-in_default-2
returns-in_default-2 c =
    let none : chars (chars_rest c.white.left) ≡ [] =
    ap chars (nil_from_length (chars_rest c.white.left) c.in_default.ensures.steps.0) ∙ chars-nil in
    ap chars c.as_str-front.ensures ∙ none ∙ ap (without_end is_white) (sym none) ∙ c.white.invariant

-- White space outside ASCII, which npm takes for a space: the `\s` of JavaScript.
use Rattle.std.specs.Prelude.{ℕ, ◌==◌, ◌&&◌, ◌||◌, Bool, nat_le, if◌then◌else◌, List, chars, encode_utf8_all, map}
use Rattle.semver_texts.specs.Characters.{space}

-- U+00A0, U+1680, U+2000 to U+200A, U+2028, U+2029, U+202F, U+205F, U+3000, U+FEFF
abbrev pub is_wide_space : ℕ → Bool
is_wide_space c =
    (c == 0xa0) || (c == 0x1680) || (nat_le 0x2000 c && nat_le c 0x200a) || (c == 0x2028) || (c == 0x2029)
    || (c == 0x202f) || (c == 0x205f) || (c == 0x3000) || (c == 0xfeff)

-- a space for such a character, and each other character itself
abbrev pub plain : ℕ → ℕ
plain c = if is_wide_space c then space else c

-- the text of these characters, with a space for each white space character outside ASCII
abbrev pub plain_text : List ℕ → List ℕ
plain_text characters = encode_utf8_all (map plain characters)

-- the text with a space for each white space character outside ASCII
abbrev pub with_plain_spaces : List ℕ → List ℕ
with_plain_spaces text = plain_text (chars text)

-- Worked examples: which of the bytes from 0 to 127 belong to each class of characters.
use Rattle.std.proofs.Common.{◌≡◌, ℕ, ◌+◌, zero, suc, List, [], ◌∷◌, codes, refl}
use Rattle.std.specs.List.{filter}
use Rattle.semver_texts.specs.Characters.{is_blank, is_digit, is_identifier_character, is_partial_mark}
use Rattle.semver_texts.specs.Characters.{is_version_mark, is_x}

-- so many numbers from the first one on: 3 of 5 are 5, 6 and 7
abbrev counted : ℕ → ℕ → List ℕ
counted zero from = []
counted (suc n) from = from ∷ counted n (from + 1)

-- the bytes of ASCII
abbrev pub ascii : List ℕ
ascii = counted 128 0

identifier_characters : filter is_identifier_character ascii
    ≡ codes "-0123456789ABCDEFGHIJKLMNOPQRSTUVWXYZabcdefghijklmnopqrstuvwxyz"
identifier_characters = refl

digit_characters : filter is_digit ascii ≡ codes "0123456789"
digit_characters = refl

blank_characters : filter is_blank ascii ≡ 9 ∷ 32 ∷ []
blank_characters = refl

unknown_numbers : filter is_x ascii ≡ codes "*Xx"
unknown_numbers = refl

version_marks : filter is_version_mark ascii ≡ codes "Vv"
version_marks = refl

partial_marks : filter is_partial_mark ascii ≡ codes "v"
partial_marks = refl

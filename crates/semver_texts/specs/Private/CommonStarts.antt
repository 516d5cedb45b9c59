-- Two texts of identifiers that begin alike, and what decides their order.
use Rattle.std.specs.Prelude.{◌≡◌, ◌⊎◌, ◌≤◌, ◌==◌, ◌&&◌, ◌||◌, ℕ, Bool, true, false, nat_lt, not, length, take, drop}
use Rattle.std.specs.Prelude.{List, [], ◌∷◌, ◌++◌}
use Rattle.semver_texts.specs.Characters.{dot, is_digit}
use Rattle.semver_texts.specs.Private.ListedViews.{is_inner}
use Rattle.semver_texts.specs.Reading.{begins}

-- one of the texts is empty, or their first bytes differ
abbrev pub AreApart : List ℕ → List ℕ → Type 0
AreApart [] s = Unit {0}
AreApart (c ∷ r) [] = Unit {0}
AreApart (c ∷ r) (d ∷ s) = (c == d) ≡ false

-- both texts begin with the same n bytes, and no more
pub record IsCommon (a b : List ℕ) (n : ℕ) : Type 0 where
  pub within : n ≤ length a
  pub within_other : n ≤ length b
  pub same : take n a ≡ take n b
  pub apart : AreApart (drop n a) (drop n b)

-- An identifier starts after this text: the text is empty, or ends with a dot.
abbrev pub IsStart : List ℕ → Type 0
IsStart text = (text ≡ []) ⊎ ((before : List ℕ) × (text ≡ before ++ (dot ∷ [])))

-- the first byte, and 0 at the end of the text, which is before each byte
abbrev pub first_byte : List ℕ → ℕ
first_byte [] = 0
first_byte (b ∷ rest) = b

-- after `9`: of the bytes of an identifier, the letters are
abbrev pub is_letter : ℕ → Bool
is_letter b = nat_lt 57 b

-- an identifier ends before this text: at a dot, or at the end of the text
abbrev pub ends : List ℕ → Bool
ends text = not (begins is_inner text)

-- the byte before this text is the last digit of an identifier
abbrev pub is_last_digit : ℕ → List ℕ → Bool
is_last_digit b rest = is_digit b && ends rest

-- The first bytes of these texts decide: one of them is a letter, or an identifier ends before both texts, or each text
-- begins with the last digit of an identifier.
abbrev pub are_decided : List ℕ → List ℕ → Bool
are_decided [] [] = true
are_decided [] (d ∷ s) = is_letter d || (d == dot)
are_decided (c ∷ r) [] = is_letter c || (c == dot)
are_decided (c ∷ r) (d ∷ s) = (is_letter c || is_letter d) || (is_last_digit c r && is_last_digit d s)

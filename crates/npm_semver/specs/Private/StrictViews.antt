-- What the private reader of strict texts passes over.
use Rattle.std.specs.Prelude.{◌≡◌, ◌-◌, ◌≤◌, ℕ, ◌==◌, ◌&&◌, ◌||◌, Bool, true, false, List, length, not}
use Rattle.std.specs.List.{list_all}
use Rattle.semver_texts.specs.Characters.{dot, hyphen, plus}
use Rattle.semver_texts.specs.IdentifierText.{parts_of}
use Rattle.semver_texts.specs.Reading.{prefix_of, rest_of}
use Rattle.npm_semver.specs.StrictVersionText.{first_failing, is_strict_identifier, is_strict_number}
use Rattle.npm_semver.specs.declared.strict.written.Part.{Part}
use Rattle.npm_semver.specs.declared.strict.written.Part.TheVariants.{Identifier, Number}

-- the characters of the text of all such parts
abbrev pub is_listed : Part → ℕ → Bool
is_listed Number b = not ((b == hyphen) || (b == plus))
is_listed Identifier b = not (b == plus)

-- and of one such part
abbrev pub is_inner : Part → ℕ → Bool
is_inner part b = is_listed part b && not (b == dot)

-- the part is strictly written
abbrev pub is_strict : Part → List ℕ → Bool
is_strict Number text = is_strict_number text
is_strict Identifier text = is_strict_identifier text

-- all the parts are
abbrev pub are_strict : Part → List ℕ → Bool
are_strict part text = list_all (is_strict part) (parts_of (prefix_of (is_listed part) text))

-- the offset of the first one that is not
abbrev pub strict_offset : Part → List ℕ → ℕ
strict_offset part text = first_failing (is_strict part) (prefix_of (is_listed part) text)

-- all the parts are strictly written, and this text follows them
pub record IsStrictUpTo (part : Part) (text rest : List ℕ) : Type 0 where
  pub strict : are_strict part text ≡ true
  pub follows : rest ≡ rest_of (is_listed part) text

-- the first part that is not strictly written starts where so many characters are left
pub record IsUnstrictFrom (part : Part) (text : List ℕ) (left : ℕ) : Type 0 where
  pub unstrict : are_strict part text ≡ false
  pub within : left ≤ length text
  pub offset : strict_offset part text ≡ length text - left

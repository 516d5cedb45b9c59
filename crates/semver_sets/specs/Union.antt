-- The union of two ranges as a text: the two texts with `||` between them, npm's "Range Grammar".
--
-- `1` and `>=3` are joined to `1||>=3`. Two kinds of texts cannot be joined in this way. `1 |` ends with a bar:
-- `1 |||2` is read as `1 ` and `|2`. ` - 10` begins with a blank: alone it is a hyphen range without a left side, but
-- after `||` its blank is ignored.
use Rattle.std.specs.Prelude.{ℕ, List, ◌∷◌, ◌++◌}
use Rattle.semver_texts.specs.Characters.{BeginsWithNo, bar, is_blank}
use Rattle.semver_sets.specs.Division.{EndsInBar}

-- one text, `||` and the other text
abbrev pub joined_text : List ℕ → List ℕ → List ℕ
joined_text one other = one ++ (bar ∷ bar ∷ other)

-- the first text does not end in `|`, and the second does not begin with a blank
pub record AreJoinable (one other : List ℕ) : Type 0 where
  pub ends_in_none : ¬ EndsInBar one
  pub begins_with_none : BeginsWithNo is_blank other

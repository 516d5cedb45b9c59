-- How the numbers of a version are written.
use Rattle.std.specs.Prelude.{◌≡◌, ℕ, ◌≤◌, List}
use Rattle.std.specs.Str.Parse.{digits_value}
use Rattle.semver_texts.specs.declared.TheConstants.{MAX_SAFE_INTEGER}
use Rattle.semver_texts.specs.Characters.{AreAll, BeginsWith, is_digit}

-- the number that digits write, with or without leading zeros: 7 for `007`
abbrev pub number_of : List ℕ → ℕ
number_of digits = digits_value 10 digits

-- one or more digits that write a number of at most MAX_SAFE_INTEGER: `12`, `012`
pub record IsNumberText (text : List ℕ) (number : ℕ) : Type 0 where
  pub some : BeginsWith is_digit text
  pub digits : AreAll is_digit text
  pub value : number ≡ number_of text
  pub limit : number ≤ MAX_SAFE_INTEGER

-- The bytes of most ranges, as of `^1.2.3`.
use Rattle.std.specs.Prelude.{◌||◌, ◌==◌, ℕ, Bool}
use Rattle.std.specs.Char.{is_ascii_digit}

-- a digit, `^` or `~`
abbrev pub begins_range : ℕ → Bool
begins_range b = is_ascii_digit b || (b == 94) || (b == 126)

-- a digit, a dot, `^` or `~`
abbrev pub is_range_byte : ℕ → Bool
is_range_byte b = is_ascii_digit b || (b == 46) || (b == 94) || (b == 126)

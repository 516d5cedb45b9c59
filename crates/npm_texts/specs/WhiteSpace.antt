-- White space, as JavaScript has it.
use Rattle.std.specs.Prelude.{◌||◌, ℕ, List, [], ◌∷◌, Bool, chars, encode_utf8_all, if◌then◌else◌, reverse}
use Rattle.npm_semver.specs.NpmRanges.{is_space, is_wide_space}

-- white space: `\s` of JavaScript
abbrev pub is_white : ℕ → Bool
is_white c = is_space c || is_wide_space c

-- the characters from the first on that fails the test
abbrev pub without_start : (ℕ → Bool) → List ℕ → List ℕ
without_start test [] = []
without_start test (c ∷ cs) = if test c then without_start test cs else c ∷ cs

-- the characters up to the last that fails the test
abbrev pub without_end : (ℕ → Bool) → List ℕ → List ℕ
without_end test cs = reverse (without_start test (reverse cs))

-- the text without white space at its ends: `next` of ` next `
unfoldable pub trimmed : List ℕ → List ℕ
trimmed text = encode_utf8_all (without_end is_white (without_start is_white (chars text)))

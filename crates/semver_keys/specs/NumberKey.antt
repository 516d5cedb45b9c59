-- The key of a number below 2^64. A number below 240 is one byte. Any other is its length and its bytes, the highest
-- first, where 241 says one byte and 248 says eight: 239 is 239, 240 is 241 and 240, and 258 is 242, 1 and 2. So a
-- number with more bytes has the greater first byte.
use Rattle.std.specs.Prelude.{ℕ, zero, suc, ◌+◌, ◌/◌, ◌%◌, ◌==◌, nat_lt, if◌then◌else◌, List, [], ◌∷◌, ◌++◌}

-- the fewest bytes that hold the number, or the limit if it needs more: 0 for 0, 1 for 255, 2 for 256
unfoldable pub byte_count : ℕ → ℕ → ℕ
byte_count zero n = 0
byte_count (suc limit) n = if n == 0 then 0 else byte_count limit (n / 256) + 1

-- the lowest bytes of the number, so many of them, the highest first: 1 and 2 are the two of 258
unfoldable pub lowest_bytes : ℕ → ℕ → List ℕ
lowest_bytes zero n = []
lowest_bytes (suc count) n = lowest_bytes count (n / 256) ++ n % 256 ∷ []

-- the number of bytes, from 241 for one byte to 248 for eight, and then the bytes
unfoldable pub long_number_key : ℕ → List ℕ
long_number_key n = (byte_count 8 n + 240) ∷ lowest_bytes (byte_count 8 n) n

-- the key
unfoldable pub number_key : ℕ → List ℕ
number_key n = if nat_lt n 240 then n ∷ [] else long_number_key n

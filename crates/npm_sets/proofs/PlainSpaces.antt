-- A text in ASCII has no white space outside ASCII.
use Rattle.std.proofs.Common.{◌≡◌, ℕ, ◌<◌, List, [], ◌∷◌, map, refl, ap, ◌∙◌, arith, suc}
use Rattle.std.specs.Prelude.{IsAscii, encode_utf8_all}
use Rattle.std.proofs.lemmas.Str.{chars-IsAscii, encodes-IsAscii}
use Rattle.npm_sets.specs.Spaces.{plain, with_plain_spaces}

plain-ascii : (c : ℕ) → c < 128 → plain c ≡ c
plain-ascii c h = grind (arith)

pub map-ascii : (text : List ℕ) → IsAscii text → map plain text ≡ text
map-ascii [] ascii = refl
map-ascii (b ∷ text) ascii = λ i. plain-ascii b (ascii 0) i ∷ map-ascii text (λ n. ascii (suc n)) i

pub ascii-plain : (text : List ℕ) → IsAscii text → with_plain_spaces text ≡ text
ascii-plain text ascii =
    ap (λ l. encode_utf8_all (map plain l)) (chars-IsAscii text ascii)
    ∙ ap encode_utf8_all (map-ascii text ascii)
    ∙ encodes-IsAscii text ascii

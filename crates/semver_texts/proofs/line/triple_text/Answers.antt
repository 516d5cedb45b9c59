use Rattle.std.proofs.lemmas.Grind.{common_steps}
use Rattle.std.proofs.Common.{◌++◌, ◌∷◌, ◌<◌, ◌^◌, ℕ, List, zero, suc, arith}
use Rattle.std.proofs.lemmas.List.{take_rest}
use Rattle.std.specs.Prelude.{IsAscii, IsUtf8, decimal}
use Rattle.std.proofs.lemmas.Fmt.{IsAscii-decimal}
use Rattle.std.proofs.lemmas.Str.{IsAscii-append, IsUtf8-from_ascii}
use Rattle.semver_texts.proofs.line.triple_text.Goals as goal

dot-ascii : (text : List ℕ) → IsAscii text → IsAscii (46 ∷ text)
dot-ascii text ascii zero = omega arith
dot-ascii text ascii (suc i) = ascii i

-- digits and dots
triple-utf8 : (major minor patch : ℕ) → major < 2 ^ 64 → minor < 2 ^ 64 → patch < 2 ^ 64
    → IsUtf8 (decimal major ++ (46 ∷ (decimal minor ++ (46 ∷ decimal patch))))
triple-utf8 major minor patch one two three =
    IsUtf8-from_ascii _ (IsAscii-append (decimal major) _ (IsAscii-decimal major one)
    (dot-ascii _ (IsAscii-append (decimal minor) _ (IsAscii-decimal minor two)
    (dot-ascii _ (IsAscii-decimal patch three)))))

pub from_utf8_unchecked-requires : goal.from_utf8_unchecked-requires
from_utf8_unchecked-requires c = grind (
  arith,
  common_steps,
  take_rest,
  triple-utf8 c.args.major c.args.minor c.args.patch c.ranges.major.fits c.ranges.minor.fits c.ranges.patch.fits,
)

use native.Mathlib.Omega.{arith}
use Rattle.std.proofs.Common.{◌≡◌, Less, Equal, List}
use Rattle.semver_texts.specs.Comparison.{prerelease_cmp}
use Rattle.semver_texts.specs.IdentifierValue.{IdentifierValue}
use Rattle.semver_texts.specs.Lemmas.Public.{Greater-turned, prerelease_total}
use Rattle.node_semver.proofs.range.least.candidates.cmp_with_end.Goals as goal

pub returns-then-is_prerelease_below-2 : goal.returns-then-is_prerelease_below-2
returns-then-is_prerelease_below-2 c = grind (arith, Greater-turned, prerelease_total)

-- neither is less
equal : (xs ys : List IdentifierValue) → ¬ (prerelease_cmp xs ys ≡ Less) → ¬ (prerelease_cmp ys xs ≡ Less)
    → Equal ≡ prerelease_cmp xs ys
equal xs ys below above = grind (arith, Greater-turned, prerelease_total)

pub returns-else-is_prerelease_below-2 : goal.returns-else-is_prerelease_below-2
returns-else-is_prerelease_below-2 c = grind (arith, equal)

-- The order of lists of identifiers, by what a contract sees of them.
use Rattle.std.proofs.Common.{◌≡◌, false, ◌==◌, List, [], ◌∷◌, length, refl, sym}
use Rattle.std.specs.Ordering.{on}
use Rattle.std.specs.Cmp.Lexicographic.{slice_cmp}
use Rattle.std.specs.Cmp.Derive.Mapped.{lex_map}
use Rattle.semver_texts.specs.Identifier.{value_of, values_of}
use Rattle.semver_texts.specs.Comparison.{identifier_cmp, prerelease_cmp}
use Rattle.semver_texts.specs.declared.identifier.Identifier.{Identifier}

-- the order of identifiers is that of their values
pub slice_cmp-values : (a b : List Identifier)
    → slice_cmp (on value_of identifier_cmp) a b ≡ slice_cmp identifier_cmp (values_of a) (values_of b)
slice_cmp-values a b = sym (lex_map value_of identifier_cmp a b)

-- two lists with identifiers go by these
pub prerelease_cmp-lists : (a b : List Identifier) → (length a == 0) ≡ false → (length b == 0) ≡ false
    → slice_cmp identifier_cmp (values_of a) (values_of b) ≡ prerelease_cmp (values_of a) (values_of b)
prerelease_cmp-lists [] b p q = cc p
prerelease_cmp-lists (x ∷ xs) [] p q = cc q
prerelease_cmp-lists (x ∷ xs) (y ∷ ys) p q = refl

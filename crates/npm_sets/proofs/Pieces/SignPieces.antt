-- A piece that begins with `>`, `<`, `~` or `^` is no hyphen range.
use Rattle.std.proofs.Common.{◌≡◌, ℕ, Bool, true, false, List, ◌∷◌, arith, refl}
use Rattle.std.proofs.lemmas.Bool.{cases_Bool}
use Rattle.std.proofs.lemmas.Bool.Decides.{nat_tests}
use Rattle.std.specs.Prelude.{◌==◌, None}
use Rattle.semver_texts.specs.Characters.{is_digit, is_x}
use Rattle.semver_texts.specs.Lemmas.Public.{rest_of-none}
use Rattle.semver_texts.specs.Reading.{begins, is_hyphen, missing, prefix_of, read_number}
use Rattle.npm_sets.specs.NpmMeaning.{hyphen_range}
use Rattle.npm_sets.specs.PartialTexts.{partial_of}
use Rattle.npm_sets.specs.WordTexts.{begins_component, chunks_of, is_dash, is_mark, is_solid, sides_of}
use Rattle.npm_sets.specs.declared.options.NpmOptions.{NpmOptions}
use Rattle.npm_sets.specs.Private.ReadViews.{is_sign}
use Rattle.npm_sets.proofs.Chunks.ChunkLemmas.{chunk-first, prefix-step}

sign-no_mark : (b : ℕ) → is_sign b ≡ true → is_mark b ≡ false
sign-no_mark b sign = grind (arith, nat_tests)

sign-no_component : (b : ℕ) → is_sign b ≡ true → begins_component b ≡ false
sign-no_component b sign = grind (arith, nat_tests)

sign-solid : (b : ℕ) → is_sign b ≡ true → is_solid b ≡ true
sign-solid b sign = grind (arith, nat_tests)

no-x : (b : ℕ) → begins_component b ≡ false → is_x b ≡ false
no-x b h = grind (arith, nat_tests)

no-zero : (b : ℕ) → begins_component b ≡ false → (b == 48) ≡ false
no-zero b h = grind (arith, nat_tests)

no-digit : (b : ℕ) → begins_component b ≡ false → is_digit b ≡ false
no-digit b h = grind (arith, nat_tests)

-- what begins with no mark and no component is no partial
pub no-partial : (loose : Bool) (b : ℕ) (rest : List ℕ) → is_mark b ≡ false → begins_component b ≡ false
    → partial_of loose (b ∷ rest) ≡ missing (b ∷ rest)
unfolding partial_of read_number
no-partial true b rest mark other = rw (
  rest_of-none is_mark (b ∷ rest) mark,
  no-x b other,
  no-digit b other,
) refl
no-partial false b rest mark other = rw (
  rest_of-none is_mark (b ∷ rest) mark,
  no-x b other,
  no-zero b other,
  no-digit b other,
) refl

sign-no_partial : (loose : Bool) (b : ℕ) (rest : List ℕ) → is_sign b ≡ true
    → partial_of loose (b ∷ rest) ≡ missing (b ∷ rest)
sign-no_partial loose b rest sign = no-partial loose b rest (sign-no_mark b sign) (sign-no_component b sign)

no-sides : (options : NpmOptions) (b : ℕ) (rest : List ℕ) (chunks : List (List ℕ)) → is_sign b ≡ true
    → hyphen_range options (sides_of ((b ∷ rest) ∷ chunks)) ≡ None
no-sides options b rest chunks h1 = grind (arith, cases_Bool, sign-no_partial)

pub sign-no_hyphen : (options : NpmOptions) (text : List ℕ) → begins is_sign text ≡ true
    → None ≡ hyphen_range options (sides_of (chunks_of text))
sign-no_hyphen options text h1 = grind (arith, sign-solid, prefix-step, chunk-first, no-sides)

-- without a hyphen in front, the first chunk is no `-`
pub no-dash : (text : List ℕ) → begins is_hyphen text ≡ false → is_dash (prefix_of is_solid text) ≡ false
unfolding prefix_of
no-dash text h1 = grind (arith, cases_Bool)

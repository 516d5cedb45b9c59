-- The name of a key of `overrides`, by the first `@` of the key, or of what comes after one at its start.
use Rattle.std.proofs.Common.{◌≡◌, ◌≢◌, ◌∙◌, ◌==◌, ◌<◌, ℕ, suc, List, [], ◌∷◌, ◌++◌, false, ap, arith, get_or, inl, inr}
use Rattle.std.proofs.Common.{length, refl, sym}
use Rattle.std.proofs.lemmas.Bool.{ne_eqb}
use Rattle.npm_packages.specs.Overrides.{before_at_sign, name_of}
use Rattle.npm_packages.specs.Private.OverrideKeys.{IsWithoutAtSign}

-- a text without an `@`
abbrev pub HasNone : (text : List ℕ) → Type 0
HasNone text = (i : ℕ) → i < length text → get_or text i 0 ≢ 64

before_none : (text : List ℕ) → HasNone text → before_at_sign text ≡ text
before_none [] none = refl
before_none (b ∷ text) none =
    let other : (b == 64) ≡ false = ne_eqb b 64 (none 0 (omega arith)) in
    let rest = before_none text (λ i small. none (suc i) (omega (arith, small))) in
    rw other (ap (λ more. b ∷ more) rest)

before_part : (part range : List ℕ) → HasNone part → before_at_sign (part ++ (64 ∷ range)) ≡ part
before_part [] range none = refl
before_part (b ∷ part) range none =
    let other : (b == 64) ≡ false = ne_eqb b 64 (none 0 (omega arith)) in
    let rest = before_part part range (λ i small. none (suc i) (omega (arith, small))) in
    rw other (ap (λ more. b ∷ more) rest)

some_text : (part range : List ℕ) → [] ≢ part ++ (64 ∷ range)
some_text [] range is = cc is
some_text (b ∷ part) range is = cc is

unscoped : (key part range : List ℕ) → key ≡ part ++ (64 ∷ range) → HasNone part
    → ((more : List ℕ) → key ≢ 64 ∷ more) → key ≡ name_of key ++ (64 ∷ range)
unscoped [] part range parts none other = absurd (some_text part range parts)
unscoped (b ∷ key) part range parts none other =
    let first : (b == 64) ≡ false = ne_eqb b 64 (λ is. other key (ap (λ x. x ∷ key) is)) in
    let name : before_at_sign (b ∷ key) ≡ part = ap before_at_sign parts ∙ before_part part range none in
    let same : b ∷ before_at_sign key ≡ part = rw first at name in
    parts ∙ ap (λ text. text ++ (64 ∷ range)) (sym same)

-- what comes before an `@` that is not the first byte
pub parted_at : (key rest part range : List ℕ) → IsWithoutAtSign key rest → rest ≡ part ++ (64 ∷ range) → HasNone part
    → key ≡ name_of key ++ (64 ∷ range)
parted_at key rest part range (inl is) parts none =
    let name : before_at_sign rest ≡ part = ap before_at_sign parts ∙ before_part part range none in
    let whole : rest ≡ before_at_sign rest ++ (64 ∷ range) = parts ∙ ap (λ text. text ++ (64 ∷ range)) (sym name) in
    rw is (ap (λ text. 64 ∷ text) whole)
parted_at key rest part range (inr (same, other)) parts none = unscoped key part range (sym same ∙ parts) none other

whole_unscoped : (key : List ℕ) → HasNone key → name_of key ≡ key
whole_unscoped [] none = refl
whole_unscoped (b ∷ key) none =
    ap (λ text. b ∷ text) (before_none key (λ i small. none (suc i) (omega (arith, small))))

pub whole_key : (key rest : List ℕ) → IsWithoutAtSign key rest → HasNone rest → name_of key ≡ key
whole_key key rest (inl is) none = rw is (ap (λ text. 64 ∷ text) (before_none rest none))
whole_key key rest (inr (same, other)) none = whole_unscoped key (rw same at none)

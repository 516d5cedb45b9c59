-- The order of two texts of identifiers that begin alike: the first bytes after the common start decide.
use Rattle.std.proofs.Common.{◌≡◌, ◌<◌, ◌≤◌, ℕ, true, List, [], ◌∷◌, ◌++◌, refl, sym}
use Rattle.std.proofs.Common.{◌∙◌, inl, inr, length, take, drop, append-nil, arith}
use Rattle.std.proofs.lemmas.Bool.{and_parts, eq-eqb, eqb-true, ltb-true, or_cases}
use Rattle.std.proofs.lemmas.Cmp.{ranked}
use Rattle.std.proofs.lemmas.List.{take-append-drop, take-append-le}
use Rattle.std.specs.Cmp.{nat_cmp_is}
use Rattle.std.specs.Cmp.Lexicographic.{lists_total}
use Rattle.std.specs.FinMap.{nat_cmp-IsAntisymmetric}
use Rattle.std.specs.Ordering.{nat_cmp}
use Rattle.std.specs.Prelude.{◌&&◌, ◌||◌, nat_lt}
use Rattle.std.specs.declared.cmp.Ordering.{Ordering}
use Rattle.std.specs.declared.cmp.Ordering.TheVariants.{Less, Equal, Greater}
use Rattle.semver_texts.specs.Characters.{is_digit}
use Rattle.semver_texts.specs.IdentifierText.{IsListed, identifiers_of}
use Rattle.semver_texts.specs.Private.CommonStarts.{AreApart, IsCommon, IsStart, are_decided, ends}
use Rattle.semver_texts.specs.Private.CommonStarts.{first_byte, is_last_digit, is_letter}
use Rattle.semver_texts.specs.Lemmas.Order.{Greater-turned, identifier_total}
use Rattle.semver_texts.specs.Lemmas.Texts.IdentifierStarts.{after-start, texts_cmp, texts-tied}
use Rattle.semver_texts.specs.Lemmas.Texts.AfterCommonStart.{digits-order, end-below, letter-order}

-- the first of two texts in the other order
turned : (a b : List ℕ) → texts_cmp a b ≡ Less → texts_cmp b a ≡ Greater
turned a b below = (Greater-turned (lists_total identifier_total) (identifiers_of b) (identifiers_of a)).1 below

-- the bytes after a common start decide
pub decided : (common one other : List ℕ) → IsListed (common ++ one) → IsListed (common ++ other)
    → AreApart one other → are_decided one other ≡ true
    → nat_cmp (first_byte one) (first_byte other) ≡ texts_cmp (common ++ one) (common ++ other)
decided common [] [] first second apart decides = texts-tied (common ++ []) (common ++ []) refl
decided common [] (d ∷ s) first second apart decides =
    grind (arith, or_cases, ltb-true, nat_cmp_is, letter-order, texts_cmp, eqb-true, append-nil, end-below)
decided common (c ∷ r) [] first second apart decides =
    grind (arith, or_cases, ltb-true, nat_cmp_is, turned, letter-order, texts_cmp, eqb-true, append-nil, end-below)
decided common (c ∷ r) (d ∷ s) first second apart decides =
    elim (or_cases (is_letter c || is_letter d) (is_last_digit c r && is_last_digit d s) decides) [
      | inl letters ↦ by_size (nat_cmp c d) refl letters
      | inr digits ↦
          let both = and_parts (is_last_digit c r) (is_last_digit d s) digits in
          let one = and_parts (is_digit c) (ends r) both.0 in
          let other = and_parts (is_digit d) (ends s) both.1 in
          sym (digits-order common r s c d first second one.0 other.0 one.1 other.1 apart)
    ]
  where
    by_size : (o : Ordering) → nat_cmp c d ≡ o → (nat_lt 57 c || nat_lt 57 d) ≡ true
        → nat_cmp c d ≡ texts_cmp (common ++ (c ∷ r)) (common ++ (d ∷ s))
    by_size Less e letters =
        let h : c < d = ranked c d Less (sym e) in
        e ∙ sym (letter-order common (c ∷ r) s d first second (greater h letters) h)
      where
        greater : c < d → (nat_lt 57 c || nat_lt 57 d) ≡ true → 57 < d
        greater h letters = elim (or_cases _ _ letters) [
          | inl one ↦ (let k : 57 < c = ltb-true _ _ one in omega arith)
          | inr other ↦ ltb-true _ _ other
        ]
    by_size Greater e letters =
        let h : d < c = ranked c d Greater (sym e) in
        e ∙ sym (turned (common ++ (d ∷ s)) (common ++ (c ∷ r))
        (letter-order common (d ∷ s) r c second first (greater h letters) h))
      where
        greater : d < c → (nat_lt 57 c || nat_lt 57 d) ≡ true → 57 < c
        greater h letters = elim (or_cases _ _ letters) [
          | inl one ↦ ltb-true _ _ one
          | inr other ↦ (let k : 57 < d = ltb-true _ _ other in omega arith)
        ]
    by_size Equal e letters = cc (sym (eq-eqb c d (nat_cmp-IsAntisymmetric c d e)) ∙ apart)

-- ---- where an index ends the common start

-- the texts from where the last identifier of a common start begins
pub record FromStart (a b : List ℕ) (start : ℕ) : Type 0 where
  pub first : IsListed (drop start a)
  pub second : IsListed (drop start b)
  pub order : texts_cmp (drop start a) (drop start b) ≡ texts_cmp a b

pub from-start : (a b : List ℕ) (n start : ℕ) → IsListed a → IsListed b → IsCommon a b n → start ≤ length (take n a)
    → IsStart (take start (take n a)) → FromStart a b start
from-start a b n start first second common within starts = grind (
  arith,
  after-start (take start (take n a)) (drop start a) (drop start b) starts,
  take-append-le start (take n a) (drop n a),
  take-append-le start (take n b) (drop n b),
  take-append-drop n a,
  take-append-drop n b,
  take-append-drop start a,
  take-append-drop start b,
)

-- the bytes after the common start of two texts decide
pub decided-after : (a b : List ℕ) (n : ℕ) → IsListed a → IsListed b → IsCommon a b n
    → are_decided (drop n a) (drop n b) ≡ true
    → nat_cmp (first_byte (drop n a)) (first_byte (drop n b)) ≡ texts_cmp a b
decided-after a b n first second common decides =
    grind (arith, take-append-drop n a, take-append-drop n b, decided, texts_cmp)

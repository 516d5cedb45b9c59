-- Lists of identifiers: that none is a number with a leading zero, as the reader tests it.
use Rattle.std.proofs.Common.{◌≡◌, ℕ, true, List, [], ◌∷◌, ◌++◌, refl, sym, ap, ◌∙◌, append_assoc, arith}
use Rattle.std.proofs.Common.{inl, inr, subst}
use Rattle.std.proofs.lemmas.Bool.{and_parts, cases_Bool, eqb-true}
use Rattle.std.proofs.lemmas.Bool.Decides.{nat_tests}
use Rattle.std.specs.Prelude.{◌==◌, ◌&&◌, not}
use Rattle.std.specs.List.{AllByRecursion, list_all}
use Rattle.semver_texts.specs.Characters.{AreAll, BeginsWithNo, dot, is_digit, is_identifier_character}
use Rattle.semver_texts.specs.IdentifierText.{IsIdentifierText, parts_of}
use Rattle.semver_texts.specs.Reading.{begins, rest_of}
use Rattle.semver_texts.specs.Lemmas.Public.{no-append, parts-dot, parts-other, parts-shape}
use Rattle.npm_sets.specs.PartialGrammar.{is_padded_number, is_unpadded}
use Rattle.npm_sets.specs.PartialTexts.{has_none_padded, is_padded}

-- ---- one identifier

-- after its digits it goes on, unless it is a number
digits-end : (part rest : List ℕ) → AreAll is_identifier_character part → BeginsWithNo is_identifier_character rest
    → begins is_identifier_character (rest_of is_digit (part ++ rest)) ≡ not (list_all is_digit part)
unfolding rest_of
digits-end [] [] all ends = refl
digits-end [] (c ∷ rest) all ends = grind arith
digits-end (b ∷ part) rest all ends = grind (arith, digits-end part rest, and_parts, cases_Bool (is_digit b))

-- it is a number with a leading zero exactly if the reader says so
padded-part : (part rest : List ℕ) → AreAll is_identifier_character part → BeginsWithNo is_identifier_character rest
    → is_padded (part ++ rest) ≡ is_padded_number part
padded-part [] [] all ends = refl
padded-part [] (c ∷ rest) all ends = grind (arith, nat_tests)
padded-part (b ∷ []) rest all ends = grind (arith, nat_tests)
padded-part (b ∷ c ∷ part) rest all ends = grind (arith, digits-end (b ∷ c ∷ part) rest all ends, nat_tests)

-- ---- the first identifier

-- a text begins with its first part, which ends at a dot or with the text
record StartsWith (list first : List ℕ) : Type 0 where
  pub rest : List ℕ
  pub whole : list ≡ first ++ rest
  pub ends : BeginsWithNo is_identifier_character rest

first-part : (list first : List ℕ) (others : List (List ℕ)) → parts_of list ≡ first ∷ others → StartsWith list first
first-part [] first others h = record { rest = []; whole = grind arith; ends = tt }
first-part (b ∷ list) first others h = elim (cases_Bool (b == dot)) [
  | inl here ↦ record {
    rest = b ∷ list;
    whole = grind (arith, parts-dot b list here);
    ends = rw (eqb-true b dot here) refl;
  }
  | inr other ↦
      let r = parts-shape list in
      let s = first-part list r.0 r.1 r.2 in
      record { rest = s.rest; whole = grind (arith, parts-other b list r.0 r.1 other r.2, s.whole); ends = s.ends }
]

padded-first : (list rest first : List ℕ) (others : List (List ℕ)) → parts_of list ≡ first ∷ others
    → AreAll is_identifier_character first → BeginsWithNo is_identifier_character rest
    → is_padded (list ++ rest) ≡ is_padded_number first
padded-first list rest first others shape all ends =
    let s = first-part list first others shape in
    ap (λ (l : List ℕ). is_padded (l ++ rest)) s.whole ∙ ap is_padded (append_assoc first s.rest rest)
    ∙ padded-part first (s.rest ++ rest) all (no-append is_identifier_character s.rest rest s.ends ends)

-- ---- the identifiers after it

-- nothing of a list begins here, and the reader finds no identifier with a leading zero
pub record EndsList (rest : List ℕ) : Type 0 where
  pub ends : BeginsWithNo is_identifier_character rest
  pub none : has_none_padded rest ≡ true

none-step : (b : ℕ) (rest : List ℕ) → is_identifier_character b ≡ true
    → has_none_padded (b ∷ rest) ≡ has_none_padded rest
unfolding has_none_padded
none-step b rest h = grind (arith, nat_tests)

none-dot : (rest : List ℕ) → has_none_padded (dot ∷ rest) ≡ (not (is_padded rest) && has_none_padded rest)
unfolding has_none_padded
none-dot rest = grind (arith, cases_Bool (is_padded rest))

-- from a dot on, all parts after it count
dot-none : (list rest first : List ℕ) (others : List (List ℕ)) → parts_of list ≡ first ∷ others
    → AllByRecursion IsIdentifierText (first ∷ others) → EndsList rest
    → has_none_padded (list ++ rest) ≡ list_all is_unpadded others
    → has_none_padded (dot ∷ (list ++ rest)) ≡ list_all is_unpadded (first ∷ others)
dot-none list rest first others shape texts ends so_far =
    none-dot (list ++ rest) ∙ rw (padded-first list rest first others shape texts.0.1 ends.ends, so_far) refl

others-none : (list rest first : List ℕ) (others : List (List ℕ)) → parts_of list ≡ first ∷ others
    → AreAll is_identifier_character first → AllByRecursion IsIdentifierText others → EndsList rest
    → has_none_padded (list ++ rest) ≡ list_all is_unpadded others
others-none [] rest first others shape all texts ends = grind arith
others-none (b ∷ list) rest first others shape all texts ends = elim (cases_Bool (b == dot)) [
  | inl here ↦
      let r = parts-shape list in
      let same : others ≡ r.0 ∷ r.1 = grind (arith, parts-dot b list here, r.2) in
      let each = subst (λ l. AllByRecursion IsIdentifierText l) same texts in
      rw (eqb-true b dot here, same)
      (dot-none list rest r.0 r.1 r.2 each ends (others-none list rest r.0 r.1 r.2 each.0.1 each.1 ends))
  | inr other ↦
      let r = parts-shape list in
      let one : first ≡ b ∷ r.0 = grind (arith, parts-other b list r.0 r.1 other r.2) in
      let same : others ≡ r.1 = grind (arith, parts-other b list r.0 r.1 other r.2) in
      let both = and_parts (is_identifier_character b) (list_all is_identifier_character r.0)
      (sym (ap (λ l. list_all is_identifier_character l) one) ∙ all) in
      none-step b (list ++ rest) both.0
      ∙ rw same (others-none list rest r.0 r.1 r.2 both.1 (subst (λ l. AllByRecursion IsIdentifierText l) same texts) ends)
]

-- ---- all identifiers

pub list-none : (list rest : List ℕ) → AllByRecursion IsIdentifierText (parts_of list) → EndsList rest
    → (not (is_padded (list ++ rest)) && has_none_padded (list ++ rest)) ≡ list_all is_unpadded (parts_of list)
list-none list rest texts ends =
    let r = parts-shape list in
    let each = subst (λ l. AllByRecursion IsIdentifierText l) r.2 texts in
    rw (
      r.2,
      padded-first list rest r.0 r.1 r.2 each.0.1 ends.ends,
      others-none list rest r.0 r.1 r.2 each.0.1 each.1 ends,
    ) refl

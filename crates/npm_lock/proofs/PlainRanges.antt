-- A spec that begins with a digit, `^` or `~`, and has only these and dots, is a text.
use Rattle.std.proofs.Common.{◌≡◌, ◌∙◌, ◌==◌, ◌∷◌, ◌++◌, ℕ, List, [], Bool, true, false, ap, arith, codes, eq-eqb, inl, inr, map, refl}
use Rattle.std.proofs.lemmas.Bool.{and_parts, cases_Bool, or_right}
use Rattle.std.proofs.lemmas.Bool.Decides.{nat_tests}
use Rattle.std.specs.Char.{to_ascii_lowercase}
use Rattle.std.specs.List.{list_all, list_any}
use Rattle.std.specs.Prelude.{slice_index}
use Rattle.npm_lock.specs.Private.RangeBytes.{begins_range, is_range_byte}
use Rattle.npm_texts.specs.SpecGrammar.{IsAlias, IsArchiveEnd, IsLocation, IsSpec, archive, from_dot, from_registry, in_registry, is_colon}
use Rattle.npm_texts.specs.SpecGrammar.{is_slash, tar, tar_gz, tgz, url, with_slash}

-- ---- bytes

module _ (b : ℕ) where
  no_n : begins_range b ≡ true → (to_ascii_lowercase b == 110) ≡ false
  no_n h = grind (arith, nat_tests)

  no_slash : is_range_byte b ≡ true → is_slash b ≡ false
  no_slash h = grind (arith, nat_tests)

  no_colon : is_range_byte b ≡ true → is_colon b ≡ false
  no_colon h = grind (arith, nat_tests)

  no_t : is_range_byte b ≡ true → (to_ascii_lowercase b == 116) ≡ false
  no_t h = grind (arith, nat_tests)

-- ---- texts

module _ (test : ℕ → Bool) where
  none_in : ((b : ℕ) → is_range_byte b ≡ true → test b ≡ false) → (text : List ℕ) → list_all is_range_byte text ≡ true
      → list_any test text ≡ false
  none_in none [] all = refl
  none_in none (b ∷ text) all =
      let parts = and_parts (is_range_byte b) (list_all is_range_byte text) all in
      rw (none b parts.0) (none_in none text parts.1)

  any_front : (front rest : List ℕ) → list_any test front ≡ true → list_any test (front ++ rest) ≡ true
  any_front [] rest h = cc h
  any_front (b ∷ front) rest h = elim (cases_Bool (test b)) [
    | inl is ↦ rw is refl
    | inr is_not ↦ rw is_not (any_front front rest (rw is_not at h))
  ]

  any_rest : (front rest : List ℕ) → list_any test rest ≡ true → list_any test (front ++ rest) ≡ true
  any_rest [] rest h = h
  any_rest (b ∷ front) rest h = or_right (test b) _ (any_rest front rest h)

-- a letter of either case
small_in : (letter : ℕ) (text : List ℕ)
    → list_any (λ b. to_ascii_lowercase b == letter) text ≡ list_any (λ b. b == letter) (map to_ascii_lowercase text)
small_in letter [] = refl
small_in letter (b ∷ text) = rw (small_in letter text) refl

-- the end of the name of an archive has a `t`
end_has_t : (end : List ℕ) → IsArchiveEnd end → list_any (λ b. to_ascii_lowercase b == 116) end ≡ true
end_has_t end (tgz is) = small_in 116 end ∙ rw is refl
end_has_t end (tar is) = small_in 116 end ∙ rw is refl
end_has_t end (tar_gz start gz b whole is any is_gz) = rw whole
    (any_front (λ b. to_ascii_lowercase b == 116) start (b ∷ gz) (small_in 116 start ∙ rw is refl))

no_alias : (b : ℕ) (rest target scheme : List ℕ) → begins_range b ≡ true → b ∷ rest ≡ scheme ++ target
    → map to_ascii_lowercase scheme ≡ codes "npm:" → ⊥
no_alias b rest target [] begins whole npm = cc npm
no_alias b rest target (s ∷ scheme) begins whole npm =
    let first : b ≡ s = cc whole in
    let is_n : to_ascii_lowercase s ≡ 110 = cc npm in
    let yes : (to_ascii_lowercase b == 110) ≡ true = eq-eqb (to_ascii_lowercase b) 110 (ap to_ascii_lowercase first ∙ is_n) in
    cc (yes, no_n b begins)

no_location : (text : List ℕ) → begins_range (slice_index text 0) ≡ true → list_all is_range_byte text ≡ true
    → ¬ IsLocation text
no_location text begins all (from_dot rest is) = let never : false ≡ true = rw is at begins in cc never
no_location text begins all (with_slash has) = cc (has, none_in is_slash no_slash text all)
no_location text begins all (url scheme rest is of_scheme) =
    let has : list_any is_colon text ≡ true = rw is (any_rest is_colon scheme (codes ":" ++ rest) refl) in
    cc (has, none_in is_colon no_colon text all)
no_location text begins all (archive start end is of_end) =
    let test = λ (b : ℕ). to_ascii_lowercase b == 116 in
    let has : list_any test text ≡ true = rw is (any_rest test start end (end_has_t end of_end)) in
    cc (has, none_in test no_t text all)

pub plain_range : (text : List ℕ) → begins_range (slice_index text 0) ≡ true → list_all is_range_byte text ≡ true
    → IsSpec text (in_registry text)
plain_range [] begins all = cc begins
plain_range (b ∷ rest) begins all = from_registry
    (λ target alias. no_alias b rest target alias.scheme begins alias.whole alias.npm) (no_location (b ∷ rest) begins all)

-- Keys of texts, identifiers and prereleases have their order, whatever follows them.
use Rattle.std.proofs.Common.{◌≡◌, ◌≤◌, ◌<◌, ◌+◌, ◌++◌, ℕ, List, [], ◌∷◌, refl, sym, ap, ◌∙◌}
use Rattle.std.proofs.Common.{inl, inr, arith, append_assoc}
use Rattle.std.proofs.lemmas.Bool.{cases_lt}
use Rattle.std.proofs.lemmas.Cmp.{by_ranked, ranked}
use Rattle.std.specs.Cmp.{nat_cmp_is}
use Rattle.std.specs.List.{AllByRecursion}
use Rattle.std.specs.Ordering.{nat_cmp, ordering_then}
use Rattle.std.specs.Cmp.Lexicographic.{slice_cmp}
use Rattle.std.specs.declared.cmp.Ordering.TheVariants.{Less, Equal, Greater}
use Rattle.semver_texts.specs.Comparison.{identifier_cmp, prerelease_cmp}
use Rattle.semver_texts.specs.IdentifierValue.{IdentifierValue, alphanumeric, numeric}
use Rattle.semver_keys.specs.KeyOrder.{key_cmp}
use Rattle.semver_keys.specs.IdentifierKey.{byte_key, identifier_key, identifiers_key, prerelease_key, text_key}
use Rattle.semver_keys.specs.VersionKey.{HasWord}
use Rattle.semver_keys.specs.Lemmas.FirstBytes.{first-as, first-bytes, then-then}
use Rattle.semver_keys.specs.Lemmas.NumberOrder.{number-order}

-- ---- texts

-- a byte that is written as two, and one that is written as it is
pub low-byte : (b : ℕ) → b < 2 → byte_key b ≡ 1 ∷ (b + 1) ∷ []
unfolding byte_key
low-byte b h = grind arith

pub plain-byte : (b : ℕ) → 2 ≤ b → byte_key b ≡ b ∷ []
unfolding byte_key
plain-byte b h = grind arith

-- one more than each of two numbers
one-more : (a b : ℕ) → nat_cmp (a + 1) (b + 1) ≡ nat_cmp a b
one-more a b = let order = ranked a b _ refl in by_ranked _ _ _ (nat_cmp a b) order
    (λ e h. sym (nat_cmp_is (a + 1) (b + 1) Less (omega arith)) ∙ sym e)
    (λ e h. sym (nat_cmp_is (a + 1) (b + 1) Equal (omega arith)) ∙ sym e)
    (λ e h. sym (nat_cmp_is (a + 1) (b + 1) Greater (omega arith)) ∙ sym e)

pub byte-order : (a b : ℕ) (r s : List ℕ)
    → key_cmp (byte_key a ++ r) (byte_key b ++ s) ≡ ordering_then (nat_cmp a b) (key_cmp r s)
byte-order a b r s = elim (cases_lt a 2) [
  | inl low ↦ elim (cases_lt b 2) [
    | inl other ↦ (λ i. key_cmp (low-byte a low i ++ r) (low-byte b other i ++ s))
        ∙ ap (λ o. ordering_then o (key_cmp r s)) (one-more a b)
    | inr other ↦ (λ i. key_cmp (low-byte a low i ++ r) (plain-byte b other i ++ s))
        ∙ first-as Less 1 b a b ((a + 1) ∷ r) s (key_cmp r s) (omega arith) (omega arith) refl
  ]
  | inr plain ↦ elim (cases_lt b 2) [
    | inl other ↦ (λ i. key_cmp (plain-byte a plain i ++ r) (low-byte b other i ++ s))
        ∙ first-as Greater a 1 a b r ((b + 1) ∷ s) (key_cmp r s) (omega arith) (omega arith) refl
    | inr other ↦ λ i. key_cmp (plain-byte a plain i ++ r) (plain-byte b other i ++ s)
  ]
]

-- the end of a text comes before each byte
end-first : (b : ℕ) (r s : List ℕ) → key_cmp (0 ∷ r) (byte_key b ++ s) ≡ Less
end-first b r s = elim (cases_lt b 2) [
  | inl low ↦ ap (λ key. key_cmp (0 ∷ r) (key ++ s)) (low-byte b low)
  | inr plain ↦ ap (λ key. key_cmp (0 ∷ r) (key ++ s)) (plain-byte b plain) ∙ first-bytes Less 0 b r s (omega arith)
]

end-last : (b : ℕ) (r s : List ℕ) → key_cmp (byte_key b ++ r) (0 ∷ s) ≡ Greater
end-last b r s = elim (cases_lt b 2) [
  | inl low ↦ ap (λ key. key_cmp (key ++ r) (0 ∷ s)) (low-byte b low)
  | inr plain ↦ ap (λ key. key_cmp (key ++ r) (0 ∷ s)) (plain-byte b plain) ∙ first-bytes Greater b 0 r s (omega arith)
]

pub text-order : (xs ys : List ℕ) (r s : List ℕ)
    → key_cmp (text_key xs ++ r) (text_key ys ++ s) ≡ ordering_then (slice_cmp nat_cmp xs ys) (key_cmp r s)
unfolding text_key
text-order [] [] r s = refl
text-order [] (y ∷ ys) r s =
    ap (λ key. key_cmp (0 ∷ r) key) (append_assoc (byte_key y) (text_key ys) s) ∙ end-first y r (text_key ys ++ s)
text-order (x ∷ xs) [] r s =
    ap (λ key. key_cmp key (0 ∷ s)) (append_assoc (byte_key x) (text_key xs) r) ∙ end-last x (text_key xs ++ r) s
text-order (x ∷ xs) (y ∷ ys) r s =
    (λ i. key_cmp (append_assoc (byte_key x) (text_key xs) r i) (append_assoc (byte_key y) (text_key ys) s i))
    ∙ byte-order x y (text_key xs ++ r) (text_key ys ++ s)
    ∙ ap (λ o. ordering_then (nat_cmp x y) o) (text-order xs ys r s)
    ∙ sym (then-then (nat_cmp x y) (slice_cmp nat_cmp xs ys) (key_cmp r s))

-- ---- identifiers

pub identifier-order : (a b : IdentifierValue) (r s : List ℕ) → HasWord a → HasWord b
    → key_cmp (identifier_key a ++ r) (identifier_key b ++ s) ≡ ordering_then (identifier_cmp a b) (key_cmp r s)
unfolding identifier_key
identifier-order (numeric m) (numeric n) r s h k = number-order m n r s h k
identifier-order (numeric m) (alphanumeric t) r s h k = refl
identifier-order (alphanumeric t) (numeric n) r s h k = refl
identifier-order (alphanumeric t) (alphanumeric u) r s h k = text-order t u r s

-- the end of a list comes before each identifier
list_end-first : (x : IdentifierValue) (r s : List ℕ) → key_cmp (0 ∷ r) (identifier_key x ++ s) ≡ Less
unfolding identifier_key
list_end-first (numeric n) r s = refl
list_end-first (alphanumeric t) r s = refl

list_end-last : (x : IdentifierValue) (r s : List ℕ) → key_cmp (identifier_key x ++ r) (0 ∷ s) ≡ Greater
unfolding identifier_key
list_end-last (numeric n) r s = refl
list_end-last (alphanumeric t) r s = refl

pub identifiers-order : (xs ys : List IdentifierValue) (r s : List ℕ)
    → AllByRecursion HasWord xs → AllByRecursion HasWord ys
    → key_cmp (identifiers_key xs ++ r) (identifiers_key ys ++ s)
    ≡ ordering_then (slice_cmp identifier_cmp xs ys) (key_cmp r s)
unfolding identifiers_key
identifiers-order [] [] r s h k = refl
identifiers-order [] (y ∷ ys) r s h k =
    ap (λ key. key_cmp (0 ∷ r) key) (append_assoc (identifier_key y) (identifiers_key ys) s)
    ∙ list_end-first y r (identifiers_key ys ++ s)
identifiers-order (x ∷ xs) [] r s h k =
    ap (λ key. key_cmp key (0 ∷ s)) (append_assoc (identifier_key x) (identifiers_key xs) r)
    ∙ list_end-last x (identifiers_key xs ++ r) s
identifiers-order (x ∷ xs) (y ∷ ys) r s h k =
    (λ i. key_cmp (append_assoc (identifier_key x) (identifiers_key xs) r i)
    (append_assoc (identifier_key y) (identifiers_key ys) s i))
    ∙ identifier-order x y (identifiers_key xs ++ r) (identifiers_key ys ++ s) h.0 k.0
    ∙ ap (λ o. ordering_then (identifier_cmp x y) o) (identifiers-order xs ys r s h.1 k.1)
    ∙ sym (then-then (identifier_cmp x y) (slice_cmp identifier_cmp xs ys) (key_cmp r s))

-- ---- prereleases

-- the identifiers of a prerelease come before the mark of a release
mark-last : (x : IdentifierValue) (xs : List IdentifierValue) (r s : List ℕ)
    → key_cmp (identifiers_key (x ∷ xs) ++ r) (255 ∷ s) ≡ Less
unfolding identifiers_key identifier_key
mark-last (numeric n) xs r s = refl
mark-last (alphanumeric t) xs r s = refl

mark-first : (x : IdentifierValue) (xs : List IdentifierValue) (r s : List ℕ)
    → key_cmp (255 ∷ r) (identifiers_key (x ∷ xs) ++ s) ≡ Greater
unfolding identifiers_key identifier_key
mark-first (numeric n) xs r s = refl
mark-first (alphanumeric t) xs r s = refl

pub prerelease-order : (xs ys : List IdentifierValue) (r s : List ℕ)
    → AllByRecursion HasWord xs → AllByRecursion HasWord ys
    → key_cmp (prerelease_key xs ++ r) (prerelease_key ys ++ s)
    ≡ ordering_then (prerelease_cmp xs ys) (key_cmp r s)
unfolding prerelease_key
prerelease-order [] [] r s h k = refl
prerelease-order [] (y ∷ ys) r s h k = mark-first y ys r s
prerelease-order (x ∷ xs) [] r s h k = mark-last x xs r s
prerelease-order (x ∷ xs) (y ∷ ys) r s h k = identifiers-order (x ∷ xs) (y ∷ ys) r s h k

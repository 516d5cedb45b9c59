-- Two texts of identifiers after their common start: the order by an end, by a letter, and by the last digits of two
-- numbers.
use Rattle.std.proofs.Common.{◌≡◌, ◌<◌, ℕ, true, false, List, [], ◌∷◌, ◌++◌, refl, sym, ap}
use Rattle.std.proofs.Common.{◌∙◌, subst, append_assoc, arith}
use Rattle.std.proofs.lemmas.Bool.{cases_Bool, eqb-true}
use Rattle.std.proofs.lemmas.Bool.Decides.{nat_tests}
use Rattle.std.proofs.lemmas.List.{map-append}
use Rattle.std.specs.Cmp.{nat_cmp_total}
use Rattle.std.specs.Cmp.Lexicographic.{slice_cmp}
use Rattle.std.specs.Ordering.{nat_cmp, ordering_then}
use Rattle.std.specs.Prelude.{◌==◌, map}
use Rattle.std.specs.declared.cmp.Ordering.{Ordering}
use Rattle.std.specs.declared.cmp.Ordering.TheVariants.{Less}
use Rattle.semver_texts.specs.Characters.{dot, is_digit}
use Rattle.semver_texts.specs.Comparison.{identifier_cmp}
use Rattle.semver_texts.specs.IdentifierText.{IsListed, identifier_of, parts_of, texts_of}
use Rattle.semver_texts.specs.Private.CommonStarts.{ends, first_byte}
use Rattle.semver_texts.specs.Lemmas.Order.{cmp-after, ends-Less, identifier_total}
use Rattle.semver_texts.specs.Lemmas.Texts.IdentifierReading.{parts-dot, parts-other, parts-shape}
use Rattle.semver_texts.specs.Lemmas.Texts.IdentifierStarts.{after-start, last-start, parts-inner, texts_cmp}
use Rattle.semver_texts.specs.Lemmas.Texts.IdentifierStarts.{texts-sides, texts-some}
use Rattle.semver_texts.specs.Lemmas.Texts.FirstDifference.{digits-part, first-decides, first-digit}
use Rattle.semver_texts.specs.Lemmas.Texts.FirstDifference.{not-digits, text-value}

-- the first of two texts ends where the other goes on after a dot
pub end-below : (common s : List ℕ) → texts_cmp common (common ++ (dot ∷ s)) ≡ Less
end-below [] s = refl
end-below (b ∷ common) s = grind (
  arith,
  texts-sides (b ∷ common) s,
  parts-shape s,
  map-append identifier_of (parts_of (b ∷ common)),
  ends-Less identifier_cmp identifier_total (map identifier_of (parts_of (b ∷ common))),
)

-- the first part of a text, whose first byte is below d
record Low (text : List ℕ) (d : ℕ) : Type 0 where
  pub first : List ℕ
  pub others : List (List ℕ)
  pub parts : parts_of text ≡ first ∷ others
  pub below : first_byte first < d

low : (text : List ℕ) (d : ℕ) → first_byte text < d → Low text d
low [] d h = record { first = []; others = []; parts = refl; below = h }
low (c ∷ r) d h = grind (arith, cases_Bool (c == dot), parts-dot c r, parts-other c r, parts-shape r)

-- an identifier with a letter is a text, which is greater than a number, and than a text with a lower byte there
letter-above : (p f g : List ℕ) (d : ℕ) → is_digit d ≡ false → first_byte f < d
    → identifier_cmp (identifier_of (p ++ f)) (identifier_of (p ++ (d ∷ g))) ≡ Less
letter-above p f g d none h =
    grind (arith, text-value (p ++ (d ∷ g)) (not-digits p g d none), cmp-after nat_cmp nat_cmp_total p f (d ∷ g))

-- the first parts decide
parts-below : (t u f g : List ℕ) (fs gs : List (List ℕ)) → parts_of t ≡ f ∷ fs → texts_of u ≡ g ∷ gs
    → identifier_cmp (identifier_of f) (identifier_of g) ≡ Less → texts_cmp t u ≡ Less
parts-below t u f g fs gs first second below = grind arith

not-dot : (d : ℕ) → 46 < d → (d == dot) ≡ false
not-dot d h = grind (arith, eqb-true)

not-digit : (d : ℕ) → 57 < d → is_digit d ≡ false
not-digit d h = grind (arith, nat_tests)

-- after a common start
pub letter-order : (common one s : List ℕ) (d : ℕ) → IsListed (common ++ one) → IsListed (common ++ (d ∷ s)) → 57 < d
    → first_byte one < d → texts_cmp (common ++ one) (common ++ (d ∷ s)) ≡ Less
letter-order common one s d first second letter h =
    let l = last-start common in
    let whole : (r : List ℕ) → common ++ r ≡ l.before ++ (l.inner ++ r) =
    λ r. ap (λ (t : List ℕ). t ++ r) l.whole ∙ append_assoc l.before l.inner r in
    let after = after-start l.before (l.inner ++ one) (l.inner ++ (d ∷ s)) l.starts
    (subst IsListed (whole one) first) (subst IsListed (whole (d ∷ s)) second) in
    let f = low one d h in
    let g = parts-shape s in
    let here = parts-inner l.inner one f.first f.others l.all f.parts in
    let there = texts-some l.inner s d
    ∙ parts-inner l.inner (d ∷ s) (d ∷ g.0) g.1 l.all (parts-other d s g.0 g.1 (not-dot d (omega arith)) g.2) in
    (λ i. texts_cmp (whole one i) (whole (d ∷ s) i)) ∙ sym after.order
    ∙ parts-below (l.inner ++ one) (l.inner ++ (d ∷ s)) _ _ _ _ here there
    (letter-above l.inner f.first g.0 d (not-digit d letter) f.below)

ends-shape : (r : List ℕ) → ends r ≡ true → (others : List (List ℕ)) × (parts_of r ≡ [] ∷ others)
ends-shape [] end = ([], refl)
ends-shape (b ∷ r) end = grind (arith, parts-dot b r)

pub digits-order : (common r s : List ℕ) (c d : ℕ) → IsListed (common ++ (c ∷ r)) → IsListed (common ++ (d ∷ s))
    → is_digit c ≡ true → is_digit d ≡ true → ends r ≡ true → ends s ≡ true → (c == d) ≡ false
    → texts_cmp (common ++ (c ∷ r)) (common ++ (d ∷ s)) ≡ nat_cmp c d
digits-order common r s c d first second digit digit_too end end_too apart =
    let l = last-start common in
    let whole : (t : List ℕ) → common ++ t ≡ l.before ++ (l.inner ++ t) =
    λ t. ap (λ (u : List ℕ). u ++ t) l.whole ∙ append_assoc l.before l.inner t in
    let after = after-start l.before (l.inner ++ (c ∷ r)) (l.inner ++ (d ∷ s)) l.starts
    (subst IsListed (whole (c ∷ r)) first) (subst IsListed (whole (d ∷ s)) second) in
    let f = ends-shape r end in
    let g = ends-shape s end_too in
    let here = texts-some l.inner r c ∙ parts-inner l.inner (c ∷ r) (c ∷ []) f.0 l.all
    (parts-other c r [] f.0 (not-dot c (digit-above c digit)) f.1) in
    let there = texts-some l.inner s d ∙ parts-inner l.inner (d ∷ s) (d ∷ []) g.0 l.all
    (parts-other d s [] g.0 (not-dot d (digit-above d digit_too)) g.1) in
    (λ i. texts_cmp (whole (c ∷ r) i) (whole (d ∷ s) i)) ∙ sym after.order
    ∙ (λ i. slice_cmp identifier_cmp (map identifier_of (here i)) (map identifier_of (there i)))
    ∙ ap (λ (o : Ordering). ordering_then o (slice_cmp identifier_cmp (map identifier_of f.0) (map identifier_of g.0)))
    (digits-part l.inner c d digit digit_too apart)
    ∙ first-decides c d _ apart
  where
    digit-above : (c : ℕ) → is_digit c ≡ true → 46 < c
    digit-above c digit = (let h = first-digit c digit in omega arith)

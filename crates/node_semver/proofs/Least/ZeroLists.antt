-- Lists of identifiers and those with a 0 more: how they compare.
use native.Mathlib.Omega.{arith}
use Rattle.std.proofs.lemmas.Grind.{common_steps}
use Rattle.std.proofs.Common.{◌≡◌, ◌≢◌, ◌↔◌, ◌∙◌, List, [], ◌∷◌, ◌++◌, ◌==◌, not, length, append-nil, Bool, true, false}
use Rattle.std.proofs.Common.{IsTrue, refl, sym, ap, subst, Ordering, Less, Equal, Greater}
use Rattle.std.specs.Ordering.{is_eq, is_le, is_lt, on}
use Rattle.std.specs.Cmp.{Equal-is, IsTotalOrder, tied_itself}
use Rattle.std.specs.Cmp.Lexicographic.{lists_total, slice_cmp}
use Rattle.std.specs.Cmp.Derive.Mapped.{lex_map}
use Rattle.std.specs.FinMap.{slice_cmp-IsAntisymmetric}
use Rattle.std.proofs.lemmas.List.{map-append}
use Rattle.semver_texts.specs.Comparison.{identifier_cmp, prerelease_cmp}
use Rattle.semver_texts.specs.Identifier.{value_of, values_of}
use Rattle.semver_texts.specs.IdentifierValue.{IdentifierValue, numeric}
use Rattle.semver_texts.specs.declared.identifier.Identifier.{Identifier}
use Rattle.semver_texts.specs.Lemmas.Public.{Greater-turned, identifier-IsAntisymmetric, identifier_total}
use Rattle.semver_versions.specs.Lemmas.Public.{none-before_zero, zero-above}
use Rattle.node_semver.specs.Private.LeastViews.{with_zeros}

-- lists with identifiers, identifier by identifier
abbrev order : List IdentifierValue → List IdentifierValue → Ordering
order xs ys = slice_cmp identifier_cmp xs ys

-- with a 0 more
abbrev zeroed : List IdentifierValue → List IdentifierValue
zeroed xs = xs ++ numeric 0 ∷ []

total : IsTotalOrder (slice_cmp identifier_cmp)
total = lists_total identifier_total

never-less : (xs : List IdentifierValue) → ¬ (order xs xs ≡ Less)
never-less xs e = cc (e, tied_itself total xs)

tied : (xs ys : List IdentifierValue) → order xs ys ≡ Equal → xs ≡ ys
tied xs ys e = slice_cmp-IsAntisymmetric identifier-IsAntisymmetric xs ys e

-- ---- what compares

-- a list is below another with a 0 more where it is at most the other
below-zeroed : (xs ys : List IdentifierValue) (r : Ordering) → order xs ys ≡ r
    → IsTrue (is_le r) ↔ (order xs (zeroed ys) ≡ Less)
below-zeroed xs ys r h1 = grind (arith, total, zero-above, none-before_zero, Greater-turned)

-- with a 0 more a list is below another where it is without, and the other is not just that
zeroed-below : (xs ys : List IdentifierValue)
    → (order (zeroed xs) ys ≡ Less) ↔ ((order xs ys ≡ Less) × (ys ≢ zeroed xs))
zeroed-below xs ys = (
  λ h. (
    total.trans xs (zeroed xs) ys (zero-above xs) h,
    λ same. never-less (zeroed xs) (subst (λ (l : List IdentifierValue). order (zeroed xs) l ≡ Less) same h),
  ),
  λ (h, other). by_order (order (zeroed xs) ys) refl h other,
)
  where
    by_order : (r : Ordering) → order (zeroed xs) ys ≡ r → order xs ys ≡ Less → ys ≢ zeroed xs
        → order (zeroed xs) ys ≡ Less
    by_order Less e h other = e
    by_order Equal e h other = absurd (other (sym (tied (zeroed xs) ys e)))
    by_order Greater e h other = absurd (none-before_zero xs ys h ((Greater-turned total (zeroed xs) ys).0 e))

-- with a 0 more in both, where they are without
both-zeroed : (xs ys : List IdentifierValue) → (order xs ys ≡ Less) ↔ (order (zeroed xs) (zeroed ys) ≡ Less)
both-zeroed xs ys = (
  upward,
  λ h. downward (order xs ys) refl ((below-zeroed xs ys (order xs ys) refl).1
      (total.trans xs (zeroed xs) (zeroed ys) (zero-above xs) h)) h,
)
  where
    by_order : (r : Ordering) → order (zeroed xs) ys ≡ r → order xs ys ≡ Less → order (zeroed xs) (zeroed ys) ≡ Less
    by_order Less e h = total.trans (zeroed xs) ys (zeroed ys) e (zero-above ys)
    by_order Equal e h = total.congr (zeroed xs) ys (zeroed ys) e ∙ zero-above ys
    by_order Greater e h = absurd (none-before_zero xs ys h ((Greater-turned total (zeroed xs) ys).0 e))

    upward : order xs ys ≡ Less → order (zeroed xs) (zeroed ys) ≡ Less
    upward h = by_order (order (zeroed xs) ys) refl h

    downward : (r : Ordering) → order xs ys ≡ r → IsTrue (is_le r) → order (zeroed xs) (zeroed ys) ≡ Less
        → order xs ys ≡ Less
    downward Less e t h = e
    downward Equal e t h =
        absurd (never-less (zeroed ys) (subst (λ (l : List IdentifierValue). order (zeroed l) (zeroed ys) ≡ Less)
        (tied xs ys e) h))
    downward Greater e t h = cc t

-- ---- as the program compares them

-- what the program compares are the lists of values
compared : (a b : List Identifier) (r : Ordering) → r ≡ slice_cmp (on value_of identifier_cmp) a b
    → order (values_of a) (values_of b) ≡ r
compared a b r e = sym (e ∙ sym (lex_map value_of identifier_cmp a b))

-- two prereleases go by their lists
both-some : (xs ys : List IdentifierValue) → xs ≢ [] → ys ≢ [] → prerelease_cmp xs ys ≡ order xs ys
both-some xs ys h1 h2 = grind arith

some-zeroed : (xs : List IdentifierValue) → zeroed xs ≢ []
some-zeroed xs = grind (arith, common_steps)

-- with a 0 more in neither, in one or in both: the program's result is whether the first is below
abbrev BelowWith : List Identifier → Bool → List Identifier → Bool → Type 0
BelowWith a z b w = prerelease_cmp (with_zeros (values_of a) z) (with_zeros (values_of b) w) ≡ Less

less-is : (r : Ordering) → IsTrue (is_lt r) ↔ (r ≡ Less)
less-is r = grind arith

along : (t : Bool) (r s : Ordering) → r ≡ s → IsTrue t ↔ (s ≡ Less) → IsTrue t ↔ (r ≡ Less)
along t r s e i = (λ h. e ∙ i.0 h, λ h. i.1 (sym e ∙ h))

without : (xs : List IdentifierValue) (z : Bool) → z ≡ false → with_zeros xs z ≡ xs
without xs z e = ap (with_zeros xs) e ∙ append-nil xs

with : (xs : List IdentifierValue) (z : Bool) → z ≡ true → with_zeros xs z ≡ zeroed xs
with xs z e = ap (with_zeros xs) e

values-some : (a : List Identifier) → (length a == 0) ≡ false → values_of a ≢ []
values-some a h1 = grind (arith, common_steps)

-- the same result by another name
pub answered : {P : Type 0} (s t : Bool) → s ≡ t → IsTrue t ↔ P → IsTrue s ↔ P
answered s t e i = (λ h. i.0 (sym e ∙ h), λ p. e ∙ i.1 p)

pub in-second : (a b : List Identifier) (z w : Bool) (r : Ordering) → z ≡ false → w ≡ true → (length a == 0) ≡ false
    → r ≡ slice_cmp (on value_of identifier_cmp) a b → IsTrue (is_le r) ↔ BelowWith a z b w
in-second a b z w r p q some e =
    grind (arith, without, with, both-some, values-some, some-zeroed, along, below-zeroed, compared)

module _ (a b : List Identifier) (z w : Bool) (r : Ordering) (p : z ≡ true) (q : w ≡ false)
    (some : (length b == 0) ≡ false) (e : r ≡ slice_cmp (on value_of identifier_cmp) a b) where
  first-same : prerelease_cmp (with_zeros (values_of a) z) (with_zeros (values_of b) w)
      ≡ order (zeroed (values_of a)) (values_of b)
  first-same = grind (arith, with, without, both-some, some-zeroed, values-some)

  pub in-first-less : (t : Bool) → is_lt r ≡ true → IsTrue t ↔ (values_of b ≡ zeroed (values_of a))
      → IsTrue (not t) ↔ BelowWith a z b w
  in-first-less t less is = grind (arith, zeroed-below, along, first-same, compared, less-is)

  pub in-first-not : (t : Bool) → t ≡ is_lt r → t ≡ false → IsTrue t ↔ BelowWith a z b w
  in-first-not t is fails = grind (arith, zeroed-below, along, first-same, less-is, compared)

pub in-both : (a b : List Identifier) (z w : Bool) (r : Ordering) → z ≡ true → w ≡ true
    → r ≡ slice_cmp (on value_of identifier_cmp) a b → IsTrue (is_lt r) ↔ BelowWith a z b w
in-both a b z w r p q e =
    let xs = values_of a in
    let ys = values_of b in
    let same : prerelease_cmp (with_zeros xs z) (with_zeros ys w) ≡ order (zeroed xs) (zeroed ys) =
    (λ i. prerelease_cmp (with xs z p i) (with ys w q i)) ∙ both-some (zeroed xs) (zeroed ys) (some-zeroed xs)
    (some-zeroed ys) in
    let both = both-zeroed xs ys in
    along (is_lt r) _ _ same (
      λ h. both.0 (compared a b r e ∙ (less-is r).0 h),
      λ h. (less-is r).1 (sym (compared a b r e) ∙ both.1 h),
    )

-- ---- the list with a 0 more, from its last identifier

last-values : (front : List Identifier) (x : Identifier)
    → values_of (front ++ x ∷ []) ≡ values_of front ++ value_of x ∷ []
last-values front x = map-append value_of front (x ∷ [])

last-same : (xs ys : List IdentifierValue) (x y : IdentifierValue) → xs ++ x ∷ [] ≡ ys ++ y ∷ [] → (x ≡ y) × (xs ≡ ys)
last-same [] [] x y e = (cc e, refl)
last-same [] (b ∷ []) x y e = cc e
last-same [] (b ∷ c ∷ ys) x y e = cc e
last-same (a ∷ []) [] x y e = cc e
last-same (a ∷ c ∷ xs) [] x y e = cc e
last-same (a ∷ xs) (b ∷ ys) x y e = grind (arith, common_steps)

-- the last is 0, and those before it are these
pub last-zero : (longer shorter front : List Identifier) (x : Identifier) (r : Ordering) → longer ≡ front ++ x ∷ []
    → r ≡ slice_cmp (on value_of identifier_cmp) front shorter → value_of x ≡ numeric 0
    → IsTrue (is_eq r) ↔ (values_of longer ≡ zeroed (values_of shorter))
last-zero longer shorter front x r parts e zero =
    let whole : values_of longer ≡ values_of front ++ value_of x ∷ [] = ap values_of parts ∙ last-values front x in (
      λ h. whole ∙ (λ i. tied (values_of front) (values_of shorter)
          (compared front shorter r e ∙ (Equal-is r).0 h) i ++ zero i ∷ []),
      λ h. let same = last-same (values_of front) (values_of shorter) (value_of x) (numeric 0) (sym whole ∙ h) in
          (Equal-is r).1 (sym (compared front shorter r e)
          ∙ subst (λ (l : List IdentifierValue). order (values_of front) l ≡ Equal) same.1
          (tied_itself total (values_of front))),
    )

-- The comparisons of `Order` are total orders, and agree with its relations.
use Rattle.std.proofs.Common.{arith}
use Rattle.std.proofs.Common.{◌≡◌, ◌≢◌, ◌<◌, ◌↔◌, ◌⊎◌, ℕ, List, [], ◌∷◌, ◌++◌, refl}
use Rattle.std.proofs.Common.{sym, ap, subst, ◌∙◌, inl, inr, Bool, IsTrue, ◌==◌, ◌&&◌}
use Rattle.std.specs.Ordering.{eq_by_cmp, nat_cmp, on, then_cmp, ordering_then}
use Rattle.std.specs.Cmp.{Equal-is, IsTotalOrder, nat_cmp_is, nat_cmp_total, on_total, then_total, tied_itself}
use Rattle.std.specs.Cmp.{tied_then, unsigned_ties}
use Rattle.std.specs.Cmp.Lexicographic.{slice_cmp, lists_total, nat_list_cmp_total}
use Rattle.std.specs.FinMap.{IsAntisymmetric, nat_cmp-IsAntisymmetric, slice_cmp-IsAntisymmetric}
use Rattle.std.proofs.lemmas.Cmp.{ranked}
use Rattle.std.specs.declared.cmp.Ordering.{Ordering}
use Rattle.std.specs.declared.cmp.Ordering.TheVariants.{Less, Equal, Greater}
use Rattle.semver_texts.specs.IdentifierValue.{IdentifierValue, numeric, alphanumeric}
use Rattle.semver_texts.specs.Version.{VersionValue, HasSameTriple}
use Rattle.semver_texts.specs.Order.{IsListBelow, IsIdentifierBelow, IsBelow, by_major, by_minor, by_patch}
use Rattle.semver_texts.specs.Order.{before_release, by_identifiers, IsSame, OrderMeans, IdentifierOrderMeans}
use Rattle.semver_texts.specs.Comparison.{identifier_cmp, prerelease_cmp, version_cmp}
use Rattle.semver_texts.specs.Triple.{triple_cmp, triple_of}
use Rattle.semver_texts.specs.declared.triple.Triple.{Triple}

-- ---- the orders are total

-- 0 for a number, which comes first, and 1 for a text
abbrev class : IdentifierValue → ℕ
class (numeric n) = 0
class (alphanumeric t) = 1

abbrev number : IdentifierValue → ℕ
number (numeric n) = n
number (alphanumeric t) = 0

abbrev text : IdentifierValue → List ℕ
text (numeric n) = []
text (alphanumeric t) = t

abbrev identifier_by_parts : IdentifierValue → IdentifierValue → Ordering
identifier_by_parts = then_cmp (on class nat_cmp) (then_cmp (on number nat_cmp) (on text (slice_cmp nat_cmp)))

by_parts : (a b : IdentifierValue) → identifier_by_parts a b ≡ identifier_cmp a b
by_parts a b = grind arith

pub identifier_total : IsTotalOrder identifier_cmp
identifier_total = subst IsTotalOrder (λ i a b. by_parts a b i)
    (then_total (on_total class nat_cmp_total)
    (then_total (on_total number nat_cmp_total) (on_total text nat_list_cmp_total)))

-- 1 for a release, which comes last, and 0 for a prerelease
abbrev rank : List IdentifierValue → ℕ
rank [] = 1
rank (x ∷ xs) = 0

by_rank : (xs ys : List IdentifierValue)
    → then_cmp (on rank nat_cmp) (slice_cmp identifier_cmp) xs ys ≡ prerelease_cmp xs ys
by_rank xs ys = grind arith

pub prerelease_total : IsTotalOrder prerelease_cmp
prerelease_total = subst IsTotalOrder (λ i xs ys. by_rank xs ys i)
    (then_total (on_total rank nat_cmp_total) (lists_total identifier_total))

pub triple_total : IsTotalOrder triple_cmp
triple_total =
    then_total (on_total (λ (t : Triple). t.major) nat_cmp_total)
    (then_total (on_total (λ (t : Triple). t.minor) nat_cmp_total) (on_total (λ (t : Triple). t.patch) nat_cmp_total))

pub version_total : IsTotalOrder version_cmp
version_total = then_total (on_total (λ (v : VersionValue). v.major) nat_cmp_total)
    (then_total (on_total (λ (v : VersionValue). v.minor) nat_cmp_total)
    (then_total (on_total (λ (v : VersionValue). v.patch) nat_cmp_total)
    (on_total (λ (v : VersionValue). v.pre_release) prerelease_total)))

-- ---- any total order

-- greater is less the other way round
pub Greater-turned : {K : Type 0} {R : K → K → Ordering} → IsTotalOrder R → (x y : K)
    → (R x y ≡ Greater) ↔ (R y x ≡ Less)
Greater-turned {R = R} o x y = grind arith

-- the first decides, unless it is `Equal`
pub then-Less : (r s : Ordering) → r ≡ Less → ordering_then r s ≡ Less
then-Less r s e = ap (λ k. ordering_then k s) e

pub then-cases : (r s : Ordering) → ordering_then r s ≡ Less → (r ≡ Less) ⊎ ((r ≡ Equal) × (s ≡ Less))
then-cases r s e = grind arith

pub then-tied : (r s : Ordering) → r ≡ Equal → ordering_then r s ≡ s
then-tied r s e = ap (λ k. ordering_then k s) e

pub then-first : (r s : Ordering) → ordering_then r s ≡ Equal → r ≡ Equal
then-first r s e = grind arith

pub then-second : (r s : Ordering) → ordering_then r s ≡ Equal → s ≡ Equal
then-second r s e = grind arith

-- ---- lists

-- one more first element in both
same-head : {A : Type 0} (Below : A → A → Type 0) (x : A) (xs ys : List A) → IsListBelow Below xs ys
    → IsListBelow Below (x ∷ xs) (x ∷ ys)
same-head Below x xs ys (inl b) = inl (record { next = b.next; rest = b.rest; goes_on = ap (λ l. x ∷ l) b.goes_on })
same-head Below x xs ys (inr d) = inr (record {
  common = x ∷ d.common;
  next = d.next;
  rest = d.rest;
  other_next = d.other_next;
  other_rest = d.other_rest;
  first = ap (λ l. x ∷ l) d.first;
  second = ap (λ l. x ∷ l) d.second;
  below = d.below;
})

module _ {A : Type 0} (R : A → A → Ordering) (Below : A → A → Type 0) where
  by_first : (x y : A) (xs ys : List A) → ((a b : A) → R a b ≡ Less → Below a b) → IsAntisymmetric R
      → (slice_cmp R xs ys ≡ Less → IsListBelow Below xs ys)
      → (r : Ordering) → R x y ≡ r → ordering_then r (slice_cmp R xs ys) ≡ Less → IsListBelow Below (x ∷ xs) (y ∷ ys)
  by_first x y xs ys less same later Less p q = inr (record {
    common = [];
    next = x;
    rest = xs;
    other_next = y;
    other_rest = ys;
    first = refl;
    second = refl;
    below = less x y p;
  })
  by_first x y xs ys less same later Equal p q =
      subst (λ z. IsListBelow Below (x ∷ xs) (z ∷ ys)) (same x y p) (same-head Below x xs ys (later q))
  by_first x y xs ys less same later Greater p q = cc q

  pub Less-list : ((a b : A) → R a b ≡ Less → Below a b) → IsAntisymmetric R
      → (xs ys : List A) → slice_cmp R xs ys ≡ Less → IsListBelow Below xs ys
  Less-list less same [] [] e = cc e
  Less-list less same [] (y ∷ ys) e = inl (record { next = y; rest = ys; goes_on = refl })
  Less-list less same (x ∷ xs) [] e = cc e
  Less-list less same (x ∷ xs) (y ∷ ys) e = by_first x y xs ys less same (Less-list less same xs ys) (R x y) refl e

module _ {A : Type 0} (R : A → A → Ordering) (o : IsTotalOrder R) where
  -- what both begin with decides nothing
  pub cmp-after : (common xs ys : List A) → slice_cmp R (common ++ xs) (common ++ ys) ≡ slice_cmp R xs ys
  cmp-after [] xs ys = refl
  cmp-after (x ∷ common) xs ys = then-tied _ _ (tied_itself o x) ∙ cmp-after common xs ys

  -- a list is below one that goes on
  pub ends-Less : (xs : List A) (next : A) (rest : List A) → slice_cmp R xs (xs ++ next ∷ rest) ≡ Less
  ends-Less [] next rest = refl
  ends-Less (x ∷ xs) next rest = then-tied _ _ (tied_itself o x) ∙ ends-Less xs next rest

  differs-Less : (common : List A) (a b : A) (rest other_rest : List A) → R a b ≡ Less
      → slice_cmp R (common ++ a ∷ rest) (common ++ b ∷ other_rest) ≡ Less
  differs-Less common a b rest other_rest e = cmp-after common (a ∷ rest) (b ∷ other_rest) ∙ then-Less _ _ e

  pub list-Less : (Below : A → A → Type 0) → ((a b : A) → Below a b → R a b ≡ Less)
      → (xs ys : List A) → IsListBelow Below xs ys → slice_cmp R xs ys ≡ Less
  list-Less Below less xs ys (inl b) = subst (λ l. slice_cmp R xs l ≡ Less) (sym b.goes_on) (ends-Less xs b.next b.rest)
  list-Less Below less xs ys (inr d) =
      (λ i. slice_cmp R (d.first i) (d.second i))
      ∙ differs-Less d.common d.next d.other_next d.rest d.other_rest (less d.next d.other_next d.below)

-- ---- identifiers

Less-number : (m n : ℕ) → nat_cmp m n ≡ Less → m < n
Less-number m n e = ranked m n Less (sym e)

number-Less : (m n : ℕ) → m < n → nat_cmp m n ≡ Less
number-Less m n h = sym (nat_cmp_is m n Less h)

pub Less-identifier : (a b : IdentifierValue) → identifier_cmp a b ≡ Less → IsIdentifierBelow a b
Less-identifier a b e = grind (arith, Less-list nat_cmp (λ x y. x < y) Less-number nat_cmp-IsAntisymmetric)

pub identifier-Less : (a b : IdentifierValue) → IsIdentifierBelow a b → identifier_cmp a b ≡ Less
identifier-Less a b h = grind (arith, list-Less nat_cmp nat_cmp_total (λ x y. x < y) number-Less)

-- identifiers that tie are the same
pub identifier-IsAntisymmetric : IsAntisymmetric identifier_cmp
identifier-IsAntisymmetric h1 h2 e = grind (arith, nat_cmp-IsAntisymmetric, slice_cmp-IsAntisymmetric)

-- `identifier_cmp` agrees with the relations
pub identifier_cmp-means : (a b : IdentifierValue) → IdentifierOrderMeans a b (identifier_cmp a b)
identifier_cmp-means a b = record {
  below = (Less-identifier a b, identifier-Less a b);
  same = (identifier-IsAntisymmetric a b, λ e. cc (e, tied_itself identifier_total a));
  above = (
    λ e. Less-identifier b a ((Greater-turned identifier_total a b).0 e),
    λ h. (Greater-turned identifier_total a b).1 (identifier-Less b a h),
  );
}

-- what the order of two identifiers means, for a function that returns it
pub identifier_order : (a b : IdentifierValue) (r : Ordering) → r ≡ identifier_cmp a b → IdentifierOrderMeans a b r
identifier_order a b r e = subst (IdentifierOrderMeans a b) (sym e) (identifier_cmp-means a b)

pub identifier_same : (a b : IdentifierValue) (r : Bool) → r ≡ eq_by_cmp identifier_cmp a b → IsTrue r ↔ (a ≡ b)
identifier_same a b r e = grind (arith, identifier_cmp-means)

-- ---- versions

-- prerelease lists that tie are the same
pub prerelease-IsAntisymmetric : IsAntisymmetric prerelease_cmp
prerelease-IsAntisymmetric h1 h2 e = grind (arith, slice_cmp-IsAntisymmetric, identifier-IsAntisymmetric)

-- two prereleases are ordered by their lists
both-prereleases : (xs ys : List IdentifierValue) → xs ≢ [] → ys ≢ []
    → prerelease_cmp xs ys ≡ slice_cmp identifier_cmp xs ys
both-prereleases xs ys n m = grind arith

prerelease-release : (xs ys : List IdentifierValue) → xs ≢ [] → ¬ (ys ≢ []) → prerelease_cmp xs ys ≡ Less
prerelease-release xs ys n m = grind arith

Less-prereleases : (v w : VersionValue) → HasSameTriple v w → (xs ys : List IdentifierValue) → v.pre_release ≡ xs
    → w.pre_release ≡ ys
    → prerelease_cmp xs ys ≡ Less → IsBelow v w
Less-prereleases v w t xs ys p q e = grind (
  arith,
  before_release,
  by_identifiers,
  Less-list identifier_cmp IsIdentifierBelow Less-identifier identifier-IsAntisymmetric,
)

pub Less-version : (v w : VersionValue) → version_cmp v w ≡ Less → IsBelow v w
Less-version v w e = grind (arith, then-cases, Less-number, nat_cmp-IsAntisymmetric, Less-prereleases)

-- if the triples are equal, the prereleases decide
same-triple : (v w : VersionValue) → HasSameTriple v w → version_cmp v w ≡ prerelease_cmp v.pre_release w.pre_release
same-triple v w t = grind arith

pub version-Less : (v w : VersionValue) → IsBelow v w → version_cmp v w ≡ Less
version-Less v w (by_major h) = then-Less _ _ (number-Less v.major w.major h)
version-Less v w (by_minor a h) = grind (arith, then-tied, then-Less, number-Less)
version-Less v w (by_patch a b h) = grind (arith, then-tied, then-Less, number-Less)
version-Less v w (before_release t n m) = same-triple v w t ∙ prerelease-release v.pre_release w.pre_release n m
version-Less v w (by_identifiers t n m h) = same-triple v w t ∙ both-prereleases v.pre_release w.pre_release n m
    ∙ list-Less identifier_cmp identifier_total IsIdentifierBelow identifier-Less v.pre_release w.pre_release h

-- versions that tie are the same, but for the build
pub Equal-version : (v w : VersionValue) → version_cmp v w ≡ Equal → IsSame v w
Equal-version v w e = grind (arith, then-second, nat_cmp-IsAntisymmetric, then-first, prerelease-IsAntisymmetric)

pub version-Equal : (v w : VersionValue) → IsSame v w → version_cmp v w ≡ Equal
version-Equal v w s = grind (arith, same-triple, tied_itself, prerelease_total)

-- `version_cmp` agrees with the relations
pub version_cmp-means : (v w : VersionValue) → OrderMeans v w (version_cmp v w)
version_cmp-means v w = record {
  below = (Less-version v w, version-Less v w);
  same = (Equal-version v w, version-Equal v w);
  above = (
    λ e. Less-version w v ((Greater-turned version_total v w).0 e),
    λ h. (Greater-turned version_total v w).1 (version-Less w v h),
  );
}

-- what the order of two versions means, for a function that returns it
pub version_order : (v w : VersionValue) (r : Ordering) → r ≡ version_cmp v w → OrderMeans v w r
version_order v w r e = subst (OrderMeans v w) (sym e) (version_cmp-means v w)

pub version_same : (v w : VersionValue) (r : Bool) → r ≡ eq_by_cmp version_cmp v w → IsTrue r ↔ IsSame v w
version_same v w r e = grind (arith, Equal-version, Equal-is, version-Equal)

-- ---- triples

-- triples are equal exactly where they tie
pub triples_tie : (t u : Triple) → ((t.major == u.major) && ((t.minor == u.minor) && (t.patch == u.patch)))
    ≡ eq_by_cmp triple_cmp t u
triples_tie t u = grind (arith, unsigned_ties, tied_then)

-- if the triples are not equal, their order is that of the versions
pub triples_decide : (v w : VersionValue) (t : Ordering) → t ≡ triple_cmp (triple_of v) (triple_of w)
    → (t ≡ Equal → ⊥) → t ≡ version_cmp v w
triples_decide v w t e apart = grind arith

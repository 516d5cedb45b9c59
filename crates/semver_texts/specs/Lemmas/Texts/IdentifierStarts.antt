-- Two texts of identifiers that are equal up to where an identifier starts: what follows decides their order.
use Rattle.std.proofs.Common.{arith}
use Rattle.std.proofs.Common.{◌≡◌, ℕ, List, [], ◌∷◌, ◌++◌, refl, ap}
use Rattle.std.proofs.Common.{◌∙◌, inl, inr, append_assoc}
use Rattle.std.proofs.lemmas.Bool.{and_from, and_parts, cases_Bool, eqb-true}
use Rattle.std.proofs.lemmas.List.{map-append}
use Rattle.std.specs.Cmp.{tied_itself}
use Rattle.std.specs.Cmp.Lexicographic.{slice_cmp, lists_total}
use Rattle.std.specs.List.{AllByRecursion}
use Rattle.std.specs.Prelude.{◌==◌, not, map}
use Rattle.std.specs.declared.cmp.Ordering.{Ordering}
use Rattle.std.specs.declared.cmp.Ordering.TheVariants.{Equal}
use Rattle.semver_texts.specs.Characters.{AreAll, dot}
use Rattle.semver_texts.specs.Comparison.{identifier_cmp}
use Rattle.semver_texts.specs.IdentifierText.{IsListed, identifier_of, identifiers_of, parts_of}
use Rattle.semver_texts.specs.IdentifierText.{texts_of}
use Rattle.semver_texts.specs.Private.CommonStarts.{IsStart, ends}
use Rattle.semver_texts.specs.Private.ListedViews.{is_inner}
use Rattle.semver_texts.specs.Lemmas.Order.{cmp-after, identifier_total}
use Rattle.semver_texts.specs.Lemmas.Texts.IdentifierReading.{parts-dot, parts-other, parts-shape}
use Rattle.semver_texts.specs.Lemmas.Texts.ListedTexts.{parts-texts}

-- the order of the identifiers that two texts write
abbrev pub texts_cmp : List ℕ → List ℕ → Ordering
texts_cmp a b = slice_cmp identifier_cmp (identifiers_of a) (identifiers_of b)

-- equal texts tie
pub texts-tied : (a b : List ℕ) → a ≡ b → Equal ≡ texts_cmp a b
texts-tied a b same = grind (arith, tied_itself, lists_total, identifier_total)

-- what is true of each element is true of the last ones
all-after : {X : Type 0} (P : X → Type 0) (xs ys : List X) → AllByRecursion P (xs ++ ys) → AllByRecursion P ys
all-after P [] ys all = all
all-after P (x ∷ xs) ys all = all-after P xs ys all.1

-- the parts on both sides of a dot
parts-sides : (q a : List ℕ) → parts_of (q ++ (dot ∷ a)) ≡ parts_of q ++ parts_of a
parts-sides [] a = refl
parts-sides (b ∷ q) a = grind (arith, cases_Bool (b == dot), parts-dot, parts-shape q, parts-other, parts-sides q a)

-- a text with a byte in it has the parts between its dots
pub texts-some : (q a : List ℕ) (b : ℕ) → texts_of (q ++ (b ∷ a)) ≡ parts_of (q ++ (b ∷ a))
texts-some [] a b = refl
texts-some (c ∷ q) a b = refl

pub texts-sides : (q a : List ℕ) → texts_of (q ++ (dot ∷ a)) ≡ parts_of q ++ parts_of a
texts-sides q a = texts-some q a dot ∙ parts-sides q a

listed-after : (q a : List ℕ) → IsListed (q ++ (dot ∷ a)) → IsListed a
listed-after q a listed = grind (arith, parts-texts, all-after, texts-sides)

values-sides : (q a : List ℕ) → IsListed (q ++ (dot ∷ a))
    → identifiers_of (q ++ (dot ∷ a)) ≡ map identifier_of (parts_of q) ++ identifiers_of a
values-sides q a listed = grind (arith, texts-sides, map-append, parts-texts, all-after)

-- Texts that are equal up to where an identifier starts: what follows decides.
pub record After (q a b : List ℕ) : Type 0 where
  pub first : IsListed a
  pub second : IsListed b
  pub order : texts_cmp a b ≡ texts_cmp (q ++ a) (q ++ b)

pub after-start : (q a b : List ℕ) → IsStart q → IsListed (q ++ a) → IsListed (q ++ b) → After q a b
after-start q a b h4 first second =
    grind (arith, append_assoc, listed-after, slice_cmp, values-sides, cmp-after, identifier_total)

-- each text is what is before its last identifier, and the bytes of that
pub record LastStart (text : List ℕ) : Type 0 where
  pub before : List ℕ
  pub inner : List ℕ
  pub whole : text ≡ before ++ inner
  pub starts : IsStart before
  pub all : AreAll is_inner inner

pub last-start : (text : List ℕ) → LastStart text
last-start [] = record { before = []; inner = []; whole = refl; starts = inl refl; all = refl }
last-start (b ∷ text) = with_first b text (last-start text)
  where
    with_first : (b : ℕ) (text : List ℕ) → LastStart text → LastStart (b ∷ text)
    with_first b text l = elim l.starts [
      | inr ends ↦ record {
        before = b ∷ l.before;
        inner = l.inner;
        whole = ap (λ (t : List ℕ). b ∷ t) l.whole;
        starts = inr (b ∷ ends.0, ap (λ (t : List ℕ). b ∷ t) ends.1);
        all = l.all;
      }
      | inl none ↦ (let same : text ≡ l.inner = l.whole ∙ ap (λ (t : List ℕ). t ++ l.inner) none in
          elim (cases_Bool (b == dot)) [
            | inl here ↦ record {
              before = b ∷ [];
              inner = l.inner;
              whole = ap (λ (t : List ℕ). b ∷ t) same;
              starts = inr ([], ap (λ (c : ℕ). c ∷ []) (eqb-true b dot here));
              all = l.all;
            }
            | inr other ↦ record {
              before = [];
              inner = b ∷ l.inner;
              whole = ap (λ (t : List ℕ). b ∷ t) same;
              starts = inl refl;
              all = and_from (is_inner b) _ (ap not other) l.all;
            }
          ])
    ]

-- bytes without a dot belong to the first part
pub parts-inner : (p r first : List ℕ) (others : List (List ℕ)) → AreAll is_inner p → parts_of r ≡ first ∷ others
    → parts_of (p ++ r) ≡ (p ++ first) ∷ others
parts-inner [] r first others all shape = shape
parts-inner (b ∷ p) r first others all shape =
    grind (arith, and_parts, parts-other, cases_Bool, parts-inner p r first others)

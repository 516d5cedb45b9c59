-- A word has no `|`, if it is no hyphen range and is not ignored.
use native.Mathlib.Omega.{arith}
use Rattle.std.proofs.Common.{◌≡◌, ℕ, Bool, true, false, List, [], ◌∷◌, ◌++◌, Option, refl, sym, subst}
use Rattle.std.proofs.Common.{◌∙◌, inl, inr}
use Rattle.std.proofs.lemmas.Bool.{and_from, and_parts, cases_Bool, eqb-true}
use Rattle.std.proofs.lemmas.List.Folds.{list_all-append}
use Rattle.std.specs.Prelude.{◌==◌, not}
use Rattle.std.specs.List.{AllByRecursion, list_all}
use Rattle.semver_texts.specs.Characters.{AreAll, bar, caret, dot, greater_sign, is_blank}
use Rattle.semver_texts.specs.Characters.{is_partial_mark, mark_of, tilde}
use Rattle.semver_sets.specs.Comparator.{Comparator}
use Rattle.semver_sets.specs.Division.{EndsInBar, HasBars, IsSimpleText, by_caret, by_operator, by_tilde, plain}
use Rattle.semver_texts.specs.IdentifierText.{IsBuildText, IsExtrasText, IsIdentifierList, IsIdentifierText}
use Rattle.semver_texts.specs.IdentifierText.{IsPrereleaseText, parts_of}
use Rattle.semver_texts.specs.IdentifierValue.{IdentifierValue}
use Rattle.semver_sets.specs.Operators.{Operator, operator_text}
use Rattle.semver_sets.specs.PartialText.{IsComponentText, IsLed, IsPartialText, IsUnmarkedPartial, Partial, one, three}
use Rattle.semver_sets.specs.PartialText.{two}
use Rattle.semver_sets.specs.TildeRanges.{with_tilde, with_tilde_greater}
use Rattle.semver_texts.specs.Lemmas.Public.{parts-dot, parts-other, parts-shape}

-- ---- texts whose characters are all no `|`

abbrev pub is_no_bar : ℕ → Bool
is_no_bar b = not (b == bar)

abbrev pub HasNoBar : List ℕ → Type 0
HasNoBar text = AreAll is_no_bar text

-- two of them, one after the other
pub none-append : (text rest : List ℕ) → HasNoBar text → HasNoBar rest → HasNoBar (text ++ rest)
none-append text rest h g = list_all-append is_no_bar text rest ∙ and_from _ _ h g

-- what passes a test that `|` does not is no `|`
passes-none : (test : ℕ → Bool) (b : ℕ) → test bar ≡ false → test b ≡ true → is_no_bar b ≡ true
passes-none test b fails passes = grind (arith, cases_Bool, eqb-true)

all-none : (test : ℕ → Bool) (text : List ℕ) → test bar ≡ false → AreAll test text → HasNoBar text
all-none test [] fails all = refl
all-none test (b ∷ text) fails all =
    let parts = and_parts (test b) (list_all test text) all in
    and_from _ _ (passes-none test b fails parts.0) (all-none test text fails parts.1)

mark-none : (is_mark : ℕ → Bool) (text : List ℕ) → is_mark bar ≡ false → HasNoBar (mark_of is_mark text)
mark-none is_mark text h1 = grind (arith, cases_Bool, and_from, passes-none)

-- ---- extras

-- identifiers with dots between them
parts-none : (text : List ℕ) → AllByRecursion HasNoBar (parts_of text) → HasNoBar text
parts-none [] all = refl
parts-none (b ∷ text) all = elim (cases_Bool (b == dot)) [
  | inl here ↦
      let parts : AllByRecursion HasNoBar ([] ∷ parts_of text) =
      subst (λ (l : List (List ℕ)). AllByRecursion HasNoBar l) (parts-dot b text here) all in
      and_from _ _ (passes-none (λ c. c == dot) b refl here) (parts-none text parts.1)
  | inr other ↦
      let shape = parts-shape text in
      let parts : AllByRecursion HasNoBar ((b ∷ shape.0) ∷ shape.1) =
      subst (λ (l : List (List ℕ)). AllByRecursion HasNoBar l)
      (parts-other b text shape.0 shape.1 other shape.2) all in
      let both = and_parts (is_no_bar b) (list_all is_no_bar shape.0) parts.0 in
      let others : AllByRecursion HasNoBar (parts_of text) =
      subst (λ (l : List (List ℕ)). AllByRecursion HasNoBar l) (sym shape.2) (both.1, parts.1) in
      and_from _ _ both.0 (parts-none text others)
]

identifiers-none : (parts : List (List ℕ)) → AllByRecursion IsIdentifierText parts → AllByRecursion HasNoBar parts
identifiers-none [] all = tt
identifiers-none (part ∷ parts) all = grind (arith, all-none, identifiers-none parts all.1)

list-no_bar : (text : List ℕ) (identifiers : List IdentifierValue) → IsIdentifierList text identifiers → HasNoBar text
list-no_bar text identifiers h = parts-none text (identifiers-none (parts_of text) h.parts)

prerelease-none : (text : List ℕ) (identifiers : List IdentifierValue) → IsPrereleaseText text identifiers
    → HasNoBar text
prerelease-none text identifiers h1 = grind (arith, list-no_bar)

build-none : (text : List ℕ) (identifiers : List IdentifierValue) → IsBuildText text identifiers → HasNoBar text
build-none text identifiers h1 = grind (arith, list-no_bar)

extras-none : (text : List ℕ) (prerelease build : List IdentifierValue) → IsExtrasText text prerelease build
    → HasNoBar text
extras-none text prerelease build h = grind (arith, none-append, prerelease-none, build-none)

-- ---- partials

component-none : (text : List ℕ) (component : Option ℕ) → IsComponentText text component → HasNoBar text
component-none text component h1 = grind (arith, all-none, and_from, passes-none)

unmarked-none : (text : List ℕ) (p : Partial) → IsUnmarkedPartial p text → HasNoBar text
unmarked-none text p (one major says h) = component-none text major h
unmarked-none text p (two major minor says h) = grind (arith, none-append, component-none)
unmarked-none text p (three h) =
    let third = none-append h.third h.extras (component-none h.third p.patch h.patch_text)
    (extras-none h.extras p.pre_release p.build h.extras_text) in
    let second = none-append h.second (dot ∷ (h.third ++ h.extras)) (component-none h.second p.minor h.minor_text)
    third in
    subst HasNoBar (sym h.whole)
    (none-append h.first (dot ∷ (h.second ++ (dot ∷ (h.third ++ h.extras))))
    (component-none h.first p.major h.major_text) second)

partial-none : (text : List ℕ) (p : Partial) → IsPartialText text p → HasNoBar text
partial-none text p h = grind (
  arith,
  none-append (mark_of is_partial_mark text) (h.blanks ++ h.unmarked)
      (mark-none is_partial_mark text refl) (none-append h.blanks h.unmarked (all-none is_blank h.blanks refl h.blank)
      (unmarked-none h.unmarked p h.read)),
)

-- ---- words

led-none : (lead text : List ℕ) (p : Partial) → HasNoBar lead → IsLed lead text p → HasNoBar text
led-none lead text p none h = grind (
  arith,
  none-append lead (h.blanks ++ h.operand) none
      (none-append h.blanks h.operand (all-none is_blank h.blanks refl h.blank) (partial-none h.operand p h.read)),
)

operator-none : (o : Operator) → HasNoBar (operator_text o)
operator-none o = grind arith

pub simple-none : (text : List ℕ) (c : Option Comparator) → IsSimpleText text c → HasNoBar text
simple-none text c (by_operator h) =
    led-none (operator_text h.operator) text h.partial (operator-none h.operator) h.written
simple-none text c (plain h) = partial-none text h.partial h.written
simple-none text c (by_tilde (with_tilde p h says)) = led-none (tilde ∷ []) text p refl h
simple-none text c (by_tilde (with_tilde_greater blanks p all h says)) = grind (
  arith,
  led-none (tilde ∷ (blanks ++ (greater_sign ∷ []))) text p
      (none-append blanks (greater_sign ∷ []) (all-none is_blank blanks refl all) refl) h,
)
simple-none text c (by_caret h) = led-none (caret ∷ []) text h.partial refl h.written

-- where there is none, there is no `||`
pub no_bars-of_none : (text : List ℕ) → HasNoBar text → ¬ HasBars text
no_bars-of_none text none bars = grind (arith, and_parts, list_all-append)

-- nor is one its last character
pub no_end-of_none : (text : List ℕ) → HasNoBar text → ¬ EndsInBar text
no_end-of_none text none ends = grind (arith, and_parts, list_all-append)

-- such a word has no `||`
pub simple-no_bars : (text : List ℕ) (c : Option Comparator) → IsSimpleText text c → ¬ HasBars text
simple-no_bars text c h = no_bars-of_none text (simple-none text c h)

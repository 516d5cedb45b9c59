-- Partials: the reader reads exactly the partial texts.
use native.Mathlib.Omega.{arith}
use Rattle.std.proofs.Common.{◌≡◌, ℕ, Bool, true, false, List, [], ◌∷◌, ◌++◌, Some, refl, sym, ap, ◌∙◌}
use Rattle.std.proofs.lemmas.Bool.{cases_Bool, eqb-true, or_left, or_right}
use Rattle.std.specs.Prelude.{◌==◌, ◌||◌}
use Rattle.semver_texts.specs.Characters.{BeginsWith, BeginsWithNo, is_blank, is_digit, is_partial_mark, is_x}
use Rattle.semver_texts.specs.Characters.{IsCleanEnd}
use Rattle.semver_sets.specs.PartialText.{IsPartialText, IsUnmarkedPartial, Partial}
use Rattle.semver_texts.specs.Reading.{rest_of, skip_one}
use Rattle.semver_sets.specs.Private.WordReading.{read_components, read_partial}
use Rattle.semver_sets.proofs.Words.DottedReading.{components-again, components-takes, same-read}
use Rattle.semver_texts.specs.Lemmas.Public.{TakesMarked, begins-append, begins-some, blank-cases, marked-follows}
use Rattle.semver_texts.specs.Lemmas.Public.{marked-taken, rest_of-none}

-- ---- the first character

-- a digit or an x, with which components begin
abbrev pub begins_component : ℕ → Bool
begins_component b = is_digit b || is_x b

-- the same, a blank or a `v`, with which a partial begins
abbrev pub begins_partial : ℕ → Bool
begins_partial b = begins_component b || is_blank b || is_partial_mark b

-- so does an unmarked partial
partial-begins : (text : List ℕ) (p : Partial) → IsUnmarkedPartial p text → BeginsWith begins_component text
partial-begins text p h1 = grind (arith, begins-append)

-- so does a text with one at its start
components-begin : (text : List ℕ) (r : Partial × List ℕ) → read_components text ≡ Some r
    → BeginsWith begins_component text
components-begin text r h = grind (arith, components-takes text r.0 r.1 h)

-- what begins so begins with no blank
component-no_blank : (text : List ℕ) → BeginsWith begins_component text → BeginsWithNo is_blank text
component-no_blank text h1 = grind (arith, cases_Bool)

-- a blank is no mark
blank-no_mark : (b : ℕ) → is_blank b ≡ true → is_partial_mark b ≡ false
blank-no_mark b h = blank-cases (λ (c : ℕ). is_partial_mark c ≡ false) b h refl refl

-- ---- partials

-- a partial, at the start of a text
abbrev pub TakesPartial : List ℕ → Partial → List ℕ → Type 0
TakesPartial text p rest = TakesMarked is_partial_mark (IsUnmarkedPartial p) text rest

-- the text before the rest is a partial text
pub partial-takes : (text : List ℕ) (p : Partial) (rest : List ℕ) → read_partial text ≡ Some (p, rest)
    → TakesPartial text p rest
unfolding read_partial
partial-takes text p rest h =
    let t = components-takes (rest_of is_blank (skip_one is_partial_mark text)) p rest h in
    marked-taken is_partial_mark (IsUnmarkedPartial p) text t.taken rest t.whole
    (begins-some begins_component t.taken (partial-begins t.taken p t.read)) t.read

-- a partial is read, where a clean end follows
pub partial-again : (text rest : List ℕ) (p : Partial) → IsPartialText text p → IsCleanEnd rest
    → read_partial (text ++ rest) ≡ Some (p, rest)
unfolding read_partial
partial-again text rest p h clean =
    let starts = partial-begins h.unmarked p h.read in
    let some = begins-some begins_component h.unmarked starts in
    let follows = marked-follows is_partial_mark (IsUnmarkedPartial p) text rest h some
    (component-no_blank (h.unmarked ++ rest) (begins-append begins_component h.unmarked rest starts)) in
    ap read_components follows ∙ components-again h.unmarked rest p h.read clean

-- what begins with a component has neither a mark nor blanks
components-partial : (text : List ℕ) → BeginsWith begins_component text → read_partial text ≡ read_components text
unfolding read_partial skip_one
components-partial text h1 = grind (arith, rest_of-none, component-no_blank)

-- a text that begins with a blank has no mark
blank-partial : (b : ℕ) (rest : List ℕ) → is_blank b ≡ true
    → read_partial (b ∷ rest) ≡ read_components (rest_of is_blank (b ∷ rest))
unfolding read_partial skip_one
blank-partial b rest h = rw (blank-no_mark b h) refl

-- a partial stays one without the blanks before it
pub partial-unblanked : (text : List ℕ) (r : Partial × List ℕ) → read_partial text ≡ Some r
    → read_partial (rest_of is_blank text) ≡ Some r
partial-unblanked text r h1 = grind (arith, rest_of-none, blank-partial, components-partial, components-begin)

-- a partial begins with a blank, a `v`, a digit or an x
pub partial-first : (text : List ℕ) (r : Partial × List ℕ) → read_partial text ≡ Some r → BeginsWith begins_partial text
unfolding read_partial skip_one rest_of
partial-first text r h1 = grind (arith, components-begin, cases_Bool, or_right, or_left, rest_of-none)

-- a text that begins so begins with no other character
first-no : (first : ℕ → Bool) (sign : ℕ) (text : List ℕ) → first sign ≡ false → BeginsWith first text
    → BeginsWithNo (λ b. b == sign) text
first-no first sign text h1 h2 = grind (arith, cases_Bool, eqb-true)

-- no partial begins with `=`, `>`, `<`, `~`, `^` or `-`
pub partial-no : (sign : ℕ) (text : List ℕ) (r : Partial × List ℕ) → begins_partial sign ≡ false
    → read_partial text ≡ Some r → BeginsWithNo (λ b. b == sign) text
partial-no sign text r other h = first-no begins_partial sign text other (partial-first text r h)

-- a text is at most one partial
pub one_partial : (text : List ℕ) (p q : Partial) → IsPartialText text p → IsPartialText text q → p ≡ q
one_partial text p q h g =
    (same-read p q [] [] (sym (partial-again text [] p h tt) ∙ partial-again text [] q g tt)).0

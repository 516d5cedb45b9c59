-- What the stars match: the parts of a text that do not begin with a dot.
use Rattle.std.proofs.Common.{◌≡◌, ◌≢◌, ◌∙◌, ◌==◌, ◌∷◌, ℕ, List, [], Bool, true, false, ap, arith, codes, eqb-true}
use Rattle.std.proofs.Common.{inl, inr, length, ne_eqb, not, refl, subst, sym}
use Rattle.std.proofs.lemmas.Bool.{and_from, and_parts, cases_Bool, eqb-false, not-true, or_from, or_parts}
use Rattle.std.proofs.lemmas.List.Splits.{slice_split-cons_no, slice_split-cons_yes}
use Rattle.std.specs.List.{AllByRecursion, list_any, onto_first}
use Rattle.npm_lock.specs.PatternGrammar.{IsShown, Matches, by_star, by_stars, end, itself, parts_of}
use Rattle.npm_lock.specs.Private.Patterns.{is_rest}
use Rattle.npm_lock.specs.Private.PatternSteps.{are_parts, has_dot_part, has_slash, is_part}
use Rattle.npm_lock.proofs.Globs.Parts.{HasFirst, Path, alone, before, first-part, is_slash, one-part, parts-alone}
use Rattle.npm_lock.proofs.Globs.Parts.{parts-before, path-of}

-- ---- parts that begin with a dot

-- all parts after the first
abbrev after_one : List (List ℕ) → List (List ℕ)
after_one [] = []
after_one (part ∷ parts) = parts

after-onto : (b : ℕ) (parts : List (List ℕ)) → after_one (onto_first b parts) ≡ after_one parts
after-onto b [] = refl
after-onto b (part ∷ parts) = refl

-- the parts that begin in a text, at whose first byte a part begins or not
abbrev begun : (is_start : Bool) → List ℕ → List (List ℕ)
begun true path = parts_of path
begun false path = after_one (parts_of path)

abbrev AreShown : List (List ℕ) → Type 0
AreShown parts = AllByRecursion IsShown parts

shown-onto : (b : ℕ) (parts : List (List ℕ)) → HasFirst parts → b ≢ 46 → AreShown (after_one parts)
    → AreShown (onto_first b parts)
shown-onto b [] has no_dot shown = cc has.whole
shown-onto b (part ∷ parts) has no_dot shown = (no_dot, shown)

onto-shown : (b : ℕ) (parts : List (List ℕ)) → HasFirst parts → AreShown (onto_first b parts)
    → (b ≢ 46) × AreShown (after_one parts)
onto-shown b [] has shown = cc has.whole
onto-shown b (part ∷ parts) has shown = (shown.0, shown.1)

shown-takes : (path : List ℕ) (is_start : Bool) → has_dot_part is_start path ≡ false → AreShown (begun is_start path)
shown-takes [] true h = (tt, tt)
shown-takes [] false h = tt
shown-takes (b ∷ path) false h = elim (cases_Bool (b == 47)) [
  | inl is ↦
      rw (slice_split-cons_yes is_slash b path is)
      (shown-takes path true (sym (ap (λ (start : Bool). has_dot_part start path) is) ∙ h))
  | inr is_not ↦
      rw (slice_split-cons_no is_slash b path is_not, after-onto b (parts_of path))
      (shown-takes path false (sym (ap (λ (start : Bool). has_dot_part start path) is_not) ∙ h))
]
shown-takes (b ∷ path) true h =
    let parts = or_parts (b == 46) (has_dot_part (b == 47) path) h in
    elim (cases_Bool (b == 47)) [
      | inl is ↦
          rw (slice_split-cons_yes is_slash b path is)
          (tt, shown-takes path true (sym (ap (λ (start : Bool). has_dot_part start path) is) ∙ parts.1))
      | inr is_not ↦
          rw (slice_split-cons_no is_slash b path is_not) (shown-onto b (parts_of path) (first-part path (path-of path))
          (eqb-false b 46 parts.0)
          (shown-takes path false (sym (ap (λ (start : Bool). has_dot_part start path) is_not) ∙ parts.1)))
    ]

shown-again : (path : List ℕ) (is_start : Bool) → AreShown (begun is_start path) → has_dot_part is_start path ≡ false
shown-again [] true h = refl
shown-again [] false h = refl
shown-again (b ∷ path) false h = elim (cases_Bool (b == 47)) [
  | inl is ↦
      ap (λ (start : Bool). has_dot_part start path) is
      ∙ shown-again path true (rw (slice_split-cons_yes is_slash b path is) at h)
  | inr is_not ↦
      ap (λ (start : Bool). has_dot_part start path) is_not
      ∙ shown-again path false (rw (slice_split-cons_no is_slash b path is_not, after-onto b (parts_of path)) at h)
]
shown-again (b ∷ path) true h = elim (cases_Bool (b == 47)) [
  | inl is ↦
      let shown = rw (slice_split-cons_yes is_slash b path is) at h in
      or_from (b == 46) (has_dot_part (b == 47) path) (ap (λ (c : ℕ). c == 46) (eqb-true b 47 is))
      (ap (λ (start : Bool). has_dot_part start path) is ∙ shown-again path true shown.1)
  | inr is_not ↦
      let shown = onto-shown b (parts_of path) (first-part path (path-of path))
      (rw (slice_split-cons_no is_slash b path is_not) at h) in
      or_from (b == 46) (has_dot_part (b == 47) path) (ne_eqb b 46 shown.0)
      (ap (λ (start : Bool). has_dot_part start path) is_not ∙ shown-again path false shown.1)
]

-- ---- `**`

some-text : (rest : List ℕ) → (length rest == 0) ≡ false → parts_of rest ≢ [] ∷ []
some-text rest some is = let empty : rest ≡ [] = one-part rest [] is in cc (some, ap (λ (l : List ℕ). length l == 0) empty)

text-some : (rest : List ℕ) → parts_of rest ≢ [] ∷ [] → (length rest == 0) ≡ false
text-some [] some = absurd (some refl)
text-some (b ∷ rest) some = ne_eqb (length (b ∷ rest)) 0 (omega arith)

stars-again : (rest : List ℕ) → are_parts rest ≡ true → Matches (codes "**" ∷ []) (parts_of rest)
stars-again rest h =
    let parts = and_parts (not (length rest == 0)) (not (has_dot_part true rest)) h in
    by_stars (parts_of rest) (some-text rest (not-true (length rest == 0) parts.0))
    (shown-takes rest true (not-true (has_dot_part true rest) parts.1))

are-from : (rest : List ℕ) → parts_of rest ≢ [] ∷ [] → AreShown (parts_of rest) → are_parts rest ≡ true
are-from rest some shown =
    and_from (not (length rest == 0)) (not (has_dot_part true rest)) (ap not (text-some rest some))
    (ap not (shown-again rest true shown))

-- no part matches no pattern
matches-none : (pattern path : List (List ℕ)) → Matches pattern path → pattern ≡ [] → path ≡ []
matches-none pattern path end is = refl
matches-none pattern path (itself part patterns others matches) is = cc is
matches-none pattern path (by_star part some shown) is = cc is
matches-none pattern path (by_stars others some shown) is = cc is

-- a star that matches itself
star-itself : (part star : List ℕ) (patterns others : List (List ℕ)) → Matches patterns others
    → part ∷ patterns ≡ star ∷ [] → (rest : List ℕ) → part ∷ others ≡ parts_of rest → rest ≡ star
star-itself part star patterns others matches is rest parts =
    let none : others ≡ [] = matches-none patterns others matches (cc is) in
    one-part rest star (cc (is, none, parts))

stars-takes : (pattern path : List (List ℕ)) → Matches pattern path → pattern ≡ codes "**" ∷ [] → (rest : List ℕ)
    → path ≡ parts_of rest → are_parts rest ≡ true
stars-takes pattern path end is rest parts = cc is
stars-takes pattern path (itself part patterns others matches) is rest parts =
    ap are_parts (star-itself part (codes "**") patterns others matches is rest parts)
stars-takes pattern path (by_star part some shown) is rest parts = cc is
stars-takes pattern path (by_stars others some shown) is rest parts =
    are-from rest (λ one. some (parts ∙ one)) (subst AreShown parts shown)

-- ---- `*`

star-again : (rest : List ℕ) → is_part rest ≡ true → Matches (codes "*" ∷ []) (parts_of rest)
star-again rest h =
    let parts = and_parts (are_parts rest) (not (has_slash rest)) h in
    let both = and_parts (not (length rest == 0)) (not (has_dot_part true rest)) parts.0 in
    let one : parts_of rest ≡ rest ∷ [] = parts-alone rest (not-true (has_slash rest) parts.1) in
    let shown : AreShown (rest ∷ []) = subst AreShown one (shown-takes rest true (not-true (has_dot_part true rest) both.1)) in
    subst (Matches (codes "*" ∷ [])) (sym one)
    (by_star rest (λ is. some-text rest (not-true (length rest == 0) both.0) (one ∙ ap (λ (l : List ℕ). l ∷ []) is)) shown.0)

-- a path of one part has no `/`
part-single : (rest part : List ℕ) → Path rest → parts_of rest ≡ part ∷ [] → list_any is_slash rest ≡ false
part-single rest part (alone none) is = none
part-single rest part (before first others whole none path) is =
    let next = first-part others path in
    cc (is, ap parts_of whole, parts-before first others none, next.whole)

star-takes : (pattern path : List (List ℕ)) → Matches pattern path → pattern ≡ codes "*" ∷ [] → (rest : List ℕ)
    → path ≡ parts_of rest → is_part rest ≡ true
star-takes pattern path end is rest parts = cc is
star-takes pattern path (itself part patterns others matches) is rest parts =
    ap is_part (star-itself part (codes "*") patterns others matches is rest parts)
star-takes pattern path (by_star part some shown) is rest parts =
    let one : parts_of rest ≡ part ∷ [] = sym parts in
    let single = part-single rest part (path-of rest) one in
    and_from (are_parts rest) (not (has_slash rest))
    (are-from rest (λ empty. some (cc (one, empty))) (subst AreShown parts (shown, tt))) (ap not single)
star-takes pattern path (by_stars others some shown) is rest parts = cc is

-- ---- both

abbrev pub star_of : (is_tree : Bool) → List ℕ
star_of true = codes "**"
star_of false = codes "*"

pub rest-again : (is_tree : Bool) (rest : List ℕ) → is_rest is_tree rest ≡ true
    → Matches (star_of is_tree ∷ []) (parts_of rest)
rest-again true rest h = stars-again rest h
rest-again false rest h = star-again rest h

pub rest-takes : (is_tree : Bool) (rest : List ℕ) → Matches (star_of is_tree ∷ []) (parts_of rest)
    → is_rest is_tree rest ≡ true
rest-takes true rest m = stars-takes (codes "**" ∷ []) (parts_of rest) m refl rest refl
rest-takes false rest m = star-takes (codes "*" ∷ []) (parts_of rest) m refl rest refl

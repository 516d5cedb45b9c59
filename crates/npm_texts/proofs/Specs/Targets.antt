-- The functions that give the name and the range of a target give what the grammar says.
use Rattle.std.proofs.Common.{◌≡◌, ◌∙◌, ◌==◌, ◌∷◌, ◌++◌, ℕ, List, [], Bool, true, false, Option, Some, None, ap, codes}
use Rattle.std.proofs.Common.{eq-eqb, eqb-true, if◌then◌else◌, inl, inr, nat_eq, refl, subst, subst₂, sym}
use Rattle.std.proofs.lemmas.Bool.{cases_Bool, eqb-false, false_from_ne_true, or_from, or_parts}
use Rattle.std.specs.List.{before_first, list_any, starts_with}
use Rattle.std.specs.Option.{option_map_or}
use Rattle.npm_texts.specs.RangeText.{can_be_name, range_after, target_name, target_range, unscoped_name, unscoped_range}
use Rattle.npm_texts.specs.SpecGrammar.{HasNo, IsName, IsTarget, filled, is_at_sign, is_tag_byte}
use Rattle.npm_texts.specs.SpecGrammar.{both, name_alone, plain, range_alone, scoped}
use Rattle.npm_texts.specs.Texts.{rest_after}
use Rattle.npm_texts.proofs.Specs.Locations.{starts}
use Rattle.npm_texts.proofs.Specs.Splits.{Split, after-first, all-none, before-first, before-none, first, none}
use Rattle.npm_texts.proofs.Specs.Splits.{position-inside, position-none, some-Decides, split}

-- ---- the first `@`

-- no such byte is in the text
after-none : (text other : List ℕ) → HasNo is_at_sign text → range_after text other ≡ other
after-none text other absent = rw (eq-eqb _ _ (position-none is_at_sign text absent)) refl

after-sign : (name range other : List ℕ) → HasNo is_at_sign name
    → range_after (name ++ (64 ∷ range)) other ≡ filled range
after-sign name range other absent =
    rw (position-inside is_at_sign 64 range refl name absent)
    (ap filled (after-first is_at_sign 64 range refl name absent))

unscoped-none : (text : List ℕ) → HasNo is_at_sign text
    → unscoped_name text ≡ (if can_be_name text then Some text else None)
unscoped-none text absent = rw (eq-eqb _ _ (position-none is_at_sign text absent)) refl

unscoped-sign : (name range : List ℕ) → HasNo is_at_sign name → unscoped_name (name ++ (64 ∷ range)) ≡ Some name
unscoped-sign name range absent =
    rw (position-inside is_at_sign 64 range refl name absent)
    (ap Some (before-first is_at_sign 64 range refl name absent))

-- ---- the `@` of a scope

no-scope : (b : ℕ) (rest : List ℕ) → (b == 64) ≡ false → rest_after (codes "@") (b ∷ rest) ≡ None
no-scope b rest is_not =
    let no : starts_with nat_eq (b ∷ rest) (codes "@") ≡ false =
    false_from_ne_true _ (λ is.
    let found = (starts (b ∷ rest) (codes "@")).0 is in
    let whole : b ∷ rest ≡ 64 ∷ found.0 = found.1 in
    eqb-false b 64 is_not (cc whole)) in
    rw no refl

unsigned : (text : List ℕ) → HasNo is_at_sign text → rest_after (codes "@") text ≡ None
unsigned [] absent = refl
unsigned (b ∷ rest) absent = no-scope b rest (or_parts (b == 64) (list_any is_at_sign rest) absent).0

module _ (text : List ℕ) (unscoped : rest_after (codes "@") text ≡ None) where
  name-unscoped : target_name text ≡ unscoped_name text
  name-unscoped = ap (λ (o : Option (List ℕ)).
      option_map_or (λ (rest : List ℕ). Some (64 ∷ before_first is_at_sign rest)) o (unscoped_name text)) unscoped

  range-unscoped : target_range text ≡ unscoped_range text
  range-unscoped = ap (λ (o : Option (List ℕ)).
      option_map_or (λ (rest : List ℕ). range_after rest (codes "*")) o (unscoped_range text)) unscoped

-- ---- what is of the grammar is read

abbrev IsRead : (text : List ℕ) → Option (List ℕ) → (range : List ℕ) → Type 0
IsRead text name range = (target_name text ≡ name) × (target_range text ≡ range)

scoped-read : (name range : List ℕ) → HasNo is_at_sign name
    → IsRead (64 ∷ (name ++ (64 ∷ range))) (Some (64 ∷ name)) (filled range)
scoped-read name range absent = (
  ap (λ (l : List ℕ). Some (64 ∷ l)) (before-first is_at_sign 64 range refl name absent),
  after-sign name range (codes "*") absent,
)

plain-read : (b : ℕ) (name range : List ℕ) → HasNo is_at_sign name → (b == 64) ≡ false
    → IsRead (b ∷ (name ++ (64 ∷ range))) (Some (b ∷ name)) (filled range)
plain-read b name range absent is_not =
    let none = no-scope b (name ++ (64 ∷ range)) is_not in
    let all_absent : HasNo is_at_sign (b ∷ name) = or_from (b == 64) (list_any is_at_sign name) is_not absent in (
      name-unscoped (b ∷ (name ++ (64 ∷ range))) none ∙ unscoped-sign (b ∷ name) range all_absent,
      range-unscoped (b ∷ (name ++ (64 ∷ range))) none ∙ after-sign (b ∷ name) range _ all_absent,
    )

both-read : (b : ℕ) (name range : List ℕ) → HasNo is_at_sign name
    → IsRead (b ∷ (name ++ (64 ∷ range))) (Some (b ∷ name)) (filled range)
both-read b name range absent = elim (cases_Bool (b == 64)) [
  | inl is ↦
      subst (λ (c : ℕ). IsRead (c ∷ (name ++ (64 ∷ range))) (Some (c ∷ name)) (filled range))
      (sym (eqb-true b 64 is)) (scoped-read name range absent)
  | inr is_not ↦ plain-read b name range absent is_not
]

scope_alone-read : (rest : List ℕ) → HasNo is_at_sign rest → IsRead (64 ∷ rest) (Some (64 ∷ rest)) (codes "*")
scope_alone-read rest absent =
    (ap (λ (l : List ℕ). Some (64 ∷ l)) (before-none is_at_sign rest absent), after-none rest (codes "*") absent)

-- a text without `@`, which can be a name or not
alone-read : (text : List ℕ) (can : Bool) → can_be_name text ≡ can → HasNo is_at_sign text
    → IsRead text (if can then Some text else None) (if can then codes "*" else text)
alone-read text can is absent =
    let none = unsigned text absent in (
      name-unscoped text none ∙ unscoped-none text absent
          ∙ ap (λ (c : Bool). if c then Some text else None) is,
      range-unscoped text none ∙ after-none text _ absent ∙ ap (λ (c : Bool). if c then codes "*" else text) is,
    )

tag-no_sign : (b : ℕ) → is_tag_byte b ≡ true → is_at_sign b ≡ false
tag-no_sign b h = elim (cases_Bool (b == 64)) [
  | inl is ↦
      let sign : is_tag_byte 64 ≡ true = subst (λ (c : ℕ). is_tag_byte c ≡ true) (eqb-true b 64 is) h in
      cc sign
  | inr is_not ↦ is_not
]

no-name : (text : List ℕ) → ¬ IsName text → can_be_name text ≡ false
no-name text not_name = false_from_ne_true _ (λ is. not_name (plain ((some-Decides is_tag_byte text).0 is)))

pub target-read : (text : List ℕ) (name : Option (List ℕ)) (range : List ℕ) → IsTarget text name range
    → (target_name text ≡ name) × (target_range text ≡ range)
target-read text name range (both b start end whole absent) =
    subst (λ (t : List ℕ). IsRead t (Some (b ∷ start)) (filled end)) (sym whole) (both-read b start end absent)
target-read text name range (name_alone (plain are)) =
    alone-read text true ((some-Decides is_tag_byte text).1 are)
    (all-none is_tag_byte is_at_sign tag-no_sign text are.1)
target-read text name range (name_alone (scoped rest whole absent)) =
    subst (λ (t : List ℕ). IsRead t (Some t) (codes "*")) (sym whole) (scope_alone-read rest absent)
target-read text name range (range_alone not_name absent) = alone-read text false (no-name text not_name) absent

-- ---- each text is a target

abbrev IsFound : List ℕ → Type 0
IsFound text = (name : Option (List ℕ)) × (range : List ℕ) × IsTarget text name range

-- a text with an `@` in this place
found-sign : (b : ℕ) (rest before : List ℕ) (c : ℕ) (after : List ℕ) → rest ≡ before ++ (c ∷ after)
    → HasNo is_at_sign before → is_at_sign c ≡ true → IsFound (b ∷ rest)
found-sign b rest before c after whole absent passes = (
  Some (b ∷ before),
  filled after,
  both b before after
      (ap (λ (l : List ℕ). b ∷ l) (whole ∙ ap (λ (d : ℕ). before ++ (d ∷ after)) (eqb-true c 64 passes))) absent,
)

found-scoped : (rest : List ℕ) → Split is_at_sign rest → IsFound (64 ∷ rest)
found-scoped rest (none absent) = (Some (64 ∷ rest), codes "*", name_alone (scoped rest refl absent))
found-scoped rest (first before c after whole absent passes) = found-sign 64 rest before c after whole absent passes

no-scoped : (b : ℕ) (rest : List ℕ) → (b == 64) ≡ false → can_be_name (b ∷ rest) ≡ false → ¬ IsName (b ∷ rest)
no-scoped b rest is_not cannot (plain are) = cc ((some-Decides is_tag_byte (b ∷ rest)).1 are, cannot)
no-scoped b rest is_not cannot (scoped other whole absent) =
    let same : b ∷ rest ≡ 64 ∷ other = whole in
    eqb-false b 64 is_not (cc same)

found-alone : (b : ℕ) (rest : List ℕ) → (b == 64) ≡ false → HasNo is_at_sign rest → IsFound (b ∷ rest)
found-alone b rest is_not absent = elim (cases_Bool (can_be_name (b ∷ rest))) [
  | inl can ↦
      (Some (b ∷ rest), codes "*", name_alone (plain ((some-Decides is_tag_byte (b ∷ rest)).0 can)))
  | inr cannot ↦ (
    None,
    b ∷ rest,
    range_alone (no-scoped b rest is_not cannot) (or_from (b == 64) (list_any is_at_sign rest) is_not absent),
  )
]

found-plain : (b : ℕ) (rest : List ℕ) → (b == 64) ≡ false → Split is_at_sign rest → IsFound (b ∷ rest)
found-plain b rest is_not (none absent) = found-alone b rest is_not absent
found-plain b rest is_not (first before c after whole absent passes) =
    found-sign b rest before c after whole absent passes

empty-no_name : ¬ IsName []
empty-no_name (plain are) = are.0 refl
empty-no_name (scoped rest whole absent) = let same : [] ≡ 64 ∷ rest = whole in cc same

target-found : (text : List ℕ) → IsFound text
target-found [] = (None, [], range_alone empty-no_name refl)
target-found (b ∷ rest) = elim (cases_Bool (b == 64)) [
  | inl is ↦ subst (λ (c : ℕ). IsFound (c ∷ rest)) (sym (eqb-true b 64 is)) (found-scoped rest (split is_at_sign rest))
  | inr is_not ↦ found-plain b rest is_not (split is_at_sign rest)
]

pub target-written : (text : List ℕ) → IsTarget text (target_name text) (target_range text)
target-written text =
    let found = target-found text in
    let read = target-read text found.0 found.1 found.2 in
    subst₂ (IsTarget text) (sym read.0) (sym read.1) found.2

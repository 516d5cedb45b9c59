-- The texts of patterns that are read: by their end, and by their parts.
use Rattle.std.proofs.Common.{◌≡◌, ◌∙◌, ◌∷◌, ◌++◌, ◌&&◌, ℕ, List, [], Bool, true, false, ap, ap₂, append_assoc, codes, if◌then◌else◌}
use Rattle.std.proofs.Common.{inl, inr, nat_eq, not, refl, subst, sym, true≢false}
use Rattle.std.proofs.lemmas.Bool.{and_from, and_parts, cases_Bool, false_from_ne_true, not-true, or_from, or_parts}
use Rattle.std.proofs.lemmas.List.Folds.{list_any-append}
use Rattle.std.specs.List.{ends_with, list_any}
use Rattle.npm_lock.specs.PatternGrammar.{IsPlain, IsRead, below, is_glob_byte, one_star, parts_of, plain_part, two_stars}
use Rattle.npm_lock.specs.Private.PatternSteps.{has_glob_byte, is_read, is_whole, stem_of}
use Rattle.npm_lock.proofs.Globs.Ends.{Whole, empty, ends, no-star, stem-plain, stem-star, stem-stars}
use Rattle.npm_lock.proofs.Globs.Ends.{two-stars, whole-after, whole-before, whole-cases, whole-is, whole-part}
use Rattle.npm_lock.proofs.Globs.Parts.{Path, alone, before, first-part, is_slash, parts-alone, parts-before, path-of}

-- a pattern that is read: without a star, or with a stem before it
pub data Form (pattern : List ℕ) : Type 0 where
  plain : IsPlain pattern → ¬ Whole pattern → Form pattern
  starred : (stem : List ℕ) → pattern ≡ stem ++ codes "*" → IsPlain stem → Whole stem → Form pattern
  treed : (stem : List ℕ) → pattern ≡ stem ++ codes "**" → IsPlain stem → Whole stem → Form pattern

-- ---- by the end

not-whole : (text : List ℕ) → is_whole text ≡ false → ¬ Whole text
not-whole text is_not whole = true≢false (sym (whole-is text whole) ∙ is_not)

-- what `is_read` says, by the stem and by a star at the end
abbrev read_by : (stem : List ℕ) (star : Bool) → Bool
read_by stem star = not (has_glob_byte stem) && (if star then is_whole stem else not (is_whole stem))

-- a pattern with this stem, and with a star at its end or not
by_stem : (pattern stem : List ℕ) (star : Bool) → stem_of pattern ≡ stem → ends_with nat_eq pattern (codes "*") ≡ star
    → is_read pattern ≡ true → IsPlain stem × ((if star then is_whole stem else not (is_whole stem)) ≡ true)
by_stem pattern stem star is ended h =
    let same : is_read pattern ≡ read_by stem star = ap₂ read_by is ended in
    let parts = and_parts (not (has_glob_byte stem)) (if star then is_whole stem else not (is_whole stem)) (sym same ∙ h) in
    (not-true (has_glob_byte stem) parts.0, parts.1)

form-star : (start : List ℕ) → is_read (start ++ codes "*") ≡ true → Form (start ++ codes "*")
form-star start h = elim (cases_Bool (ends_with nat_eq start (codes "*"))) [
  | inl is ↦
      let found = (ends start (codes "*")).0 is in
      let whole : start ++ codes "*" ≡ found.0 ++ codes "**" =
      ap (λ (l : List ℕ). l ++ codes "*") found.1 ∙ sym (two-stars found.0) in
      let parts = by_stem (start ++ codes "*") found.0 true (ap stem_of whole ∙ stem-stars found.0)
      ((ends (start ++ codes "*") (codes "*")).1 (start, refl)) h in
      treed found.0 whole parts.0 (whole-cases found.0 parts.1)
  | inr is_not ↦
      let parts = by_stem (start ++ codes "*") start true (stem-star start is_not)
      ((ends (start ++ codes "*") (codes "*")).1 (start, refl)) h in
      starred start refl parts.0 (whole-cases start parts.1)
]

pub form-takes : (pattern : List ℕ) → is_read pattern ≡ true → Form pattern
form-takes pattern h = elim (cases_Bool (ends_with nat_eq pattern (codes "*"))) [
  | inl is ↦
      let found = (ends pattern (codes "*")).0 is in
      subst Form (sym found.1) (form-star found.0 (subst (λ (text : List ℕ). is_read text ≡ true) found.1 h))
  | inr is_not ↦
      let parts = by_stem pattern pattern false (stem-plain pattern is_not) is_not h in
      plain parts.0 (not-whole pattern (not-true (is_whole pattern) parts.1))
]

read-by : (pattern stem : List ℕ) (star : Bool) → stem_of pattern ≡ stem → ends_with nat_eq pattern (codes "*") ≡ star
    → IsPlain stem → (if star then is_whole stem else not (is_whole stem)) ≡ true → is_read pattern ≡ true
read-by pattern stem star is ended is_plain whole =
    let same : is_read pattern ≡ read_by stem star = ap₂ read_by is ended in
    same ∙ and_from (not (has_glob_byte stem)) (if star then is_whole stem else not (is_whole stem)) (ap not is_plain) whole

pub form-again : (pattern : List ℕ) → Form pattern → is_read pattern ≡ true
form-again pattern (plain none not_whole) =
    let is_not = no-star pattern none in
    let open_end : is_whole pattern ≡ false =
    false_from_ne_true (is_whole pattern) (λ is. not_whole (whole-cases pattern is)) in
    read-by pattern pattern false (stem-plain pattern is_not) is_not none (ap not open_end)
form-again pattern (starred stem is none whole) =
    read-by pattern stem true (ap stem_of is ∙ stem-star stem (no-star stem none))
    ((ends pattern (codes "*")).1 (stem, is)) none (whole-is stem whole)
form-again pattern (treed stem is none whole) =
    read-by pattern stem true (ap stem_of is ∙ stem-stars stem)
    ((ends pattern (codes "*")).1 (stem ++ codes "*", is ∙ two-stars stem)) none (whole-is stem whole)

-- ---- by the parts

module _ (part rest : List ℕ) where
  plain-join : IsPlain part → IsPlain rest → IsPlain (part ++ (47 ∷ rest))
  plain-join one other =
      list_any-append is_glob_byte part (47 ∷ rest)
      ∙ or_from (list_any is_glob_byte part) (list_any is_glob_byte (47 ∷ rest)) one other

  pub plain-split : IsPlain (part ++ (47 ∷ rest)) → IsPlain part × IsPlain rest
  plain-split h =
      let parts = or_parts (list_any is_glob_byte part) (list_any is_glob_byte (47 ∷ rest))
      (sym (list_any-append is_glob_byte part (47 ∷ rest)) ∙ h) in
      (parts.0, parts.1)

  -- a form after a part and its `/`
  form-join : IsPlain part → Form rest → Form (part ++ (47 ∷ rest))
  form-join one (plain none not_whole) = plain (plain-join one none) (λ whole. not_whole (whole-after part rest whole))
  form-join one (starred stem is none whole) =
      starred (part ++ (47 ∷ stem))
      (ap (λ (l : List ℕ). part ++ (47 ∷ l)) is ∙ sym (append_assoc part (47 ∷ stem) (codes "*")))
      (list_any-append is_glob_byte part (47 ∷ stem)
      ∙ or_from (list_any is_glob_byte part) (list_any is_glob_byte (47 ∷ stem)) one none)
      (whole-before part stem whole)
  form-join one (treed stem is none whole) =
      treed (part ++ (47 ∷ stem))
      (ap (λ (l : List ℕ). part ++ (47 ∷ l)) is ∙ sym (append_assoc part (47 ∷ stem) (codes "**")))
      (list_any-append is_glob_byte part (47 ∷ stem)
      ∙ or_from (list_any is_glob_byte part) (list_any is_glob_byte (47 ∷ stem)) one none)
      (whole-before part stem whole)

-- one part that is read
form-part : (part : List ℕ) → list_any is_slash part ≡ false → (parts : List (List ℕ)) → IsRead parts → parts ≡ part ∷ []
    → Form part
form-part part none parts (plain_part p some is_plain) is =
    let same : p ≡ part = cc is in
    subst Form same (plain is_plain (λ whole. some (whole-part p (ap (list_any is_slash) same ∙ none) whole)))
form-part part none parts one_star is = starred [] (cc is) refl (empty refl)
form-part part none parts two_stars is = treed [] (cc is) refl (empty refl)
form-part part none parts (below p next pattern is_plain others) is = cc is

-- a part and what follows it
form-below : (parts : List (List ℕ)) → IsRead parts → (part first : List ℕ) (others : List (List ℕ))
    → parts ≡ part ∷ first ∷ others → IsPlain part × IsRead (first ∷ others)
form-below parts (plain_part p some is_plain) part first others is = cc is
form-below parts one_star part first others is = cc is
form-below parts two_stars part first others is = cc is
form-below parts (below p next pattern is_plain rest) part first others is =
    let same_part : p ≡ part = cc is in
    let same_rest : next ∷ pattern ≡ first ∷ others = cc is in
    (subst IsPlain same_part is_plain, subst IsRead same_rest rest)

form-parts : (pattern : List ℕ) → Path pattern → IsRead (parts_of pattern) → Form pattern
form-parts pattern (alone none) read = form-part pattern none (parts_of pattern) read (parts-alone pattern none)
form-parts pattern (before part rest whole none path) read =
    let next = first-part rest path in
    let inner = form-below (parts_of pattern) read part next.first next.others
    (ap parts_of whole ∙ parts-before part rest none ∙ ap (λ (l : List (List ℕ)). part ∷ l) next.whole) in
    subst Form (sym whole) (form-join part rest inner.0 (form-parts rest path (subst IsRead (sym next.whole) inner.1)))

pub read-takes : (pattern : List ℕ) → IsRead (parts_of pattern) → Form pattern
read-takes pattern read = form-parts pattern (path-of pattern) read

-- a part before a path that is read
read-below : (part rest : List ℕ) → list_any is_slash part ≡ false → IsPlain part → IsRead (parts_of rest)
    → IsRead (parts_of (part ++ (47 ∷ rest)))
read-below part rest none is_plain read =
    let next = first-part rest (path-of rest) in
    subst IsRead
    (sym (parts-before part rest none ∙ ap (λ (l : List (List ℕ)). part ∷ l) next.whole))
    (below part next.first next.others is_plain (subst IsRead next.whole read))

read-plain : (pattern : List ℕ) → Path pattern → IsPlain pattern → ¬ Whole pattern → IsRead (parts_of pattern)
read-plain pattern (alone none) is_plain not_whole =
    subst IsRead (sym (parts-alone pattern none)) (plain_part pattern (λ is. not_whole (empty is)) is_plain)
read-plain pattern (before part rest whole none path) is_plain not_whole =
    let both = plain-split part rest (subst IsPlain whole is_plain) in
    subst (λ (text : List ℕ). IsRead (parts_of text)) (sym whole) (read-below part rest none both.0
    (read-plain rest path both.1 (λ closed. not_whole (subst Whole (sym whole) (whole-before part rest closed)))))

-- a stem and what stands after it
read-stem : (stem : List ℕ) → Path stem → (star : List ℕ) → IsRead (parts_of star) → IsPlain stem → Whole stem
    → IsRead (parts_of (stem ++ star))
read-stem stem (alone none) star read is_plain whole =
    subst (λ (text : List ℕ). IsRead (parts_of (text ++ star))) (sym (whole-part stem none whole)) read
read-stem stem (before part rest is none path) star read is_plain whole =
    let both = plain-split part rest (subst IsPlain is is_plain) in
    let inner = read-stem rest path star read both.1 (whole-after part rest (subst Whole is whole)) in
    subst (λ (text : List ℕ). IsRead (parts_of text))
    (sym (ap (λ (l : List ℕ). l ++ star) is ∙ append_assoc part (47 ∷ rest) star))
    (read-below part (rest ++ star) none both.0 inner)

pub read-again : (pattern : List ℕ) → Form pattern → IsRead (parts_of pattern)
read-again pattern (plain none not_whole) = read-plain pattern (path-of pattern) none not_whole
read-again pattern (starred stem is none whole) =
    subst (λ (text : List ℕ). IsRead (parts_of text)) (sym is)
    (read-stem stem (path-of stem) (codes "*") one_star none whole)
read-again pattern (treed stem is none whole) =
    subst (λ (text : List ℕ). IsRead (parts_of text)) (sym is)
    (read-stem stem (path-of stem) (codes "**") two_stars none whole)

-- The sets of patterns: one more pattern, and the starts of a folder.
use Rattle.std.proofs.Common.{◌≡◌, ◌∙◌, ◌⊎◌, ◌↔◌, ◌&&◌, ◌||◌, ◌++◌, ◌∷◌, [], ◌==◌, ◌-◌, ◌+◌, ℕ, List, ◌<◌, Bool, true, false, cond, if◌then◌else◌, Some}
use Rattle.std.proofs.Common.{IsTrue, None, add-one, ap, append_assoc, arith, bytes_eq, codes, drop, inl, inr, length, length-drop, nat_cmp, nat_eq, not, refl, slice_index_or, sym, take}
use Rattle.std.proofs.lemmas.Bool.{cases_lt}
use Rattle.std.proofs.lemmas.Bool.Decides.{Decides-eqb, nat_tests}
use Rattle.std.proofs.lemmas.List.{length-append}
use Rattle.std.proofs.lemmas.Map.Text.{btree_map_updates_str}
use Rattle.std.proofs.lemmas.Slice.Eq.{bytes_eq-Decides, ends_is, starts_is}
use Rattle.std.proofs.Math.Seq.{drop-append_seam, take-append_seam, take-length, take-suc}
use Rattle.std.specs.BTreeMap.{BTreeMap, UpdatesBy, is_at}
use Rattle.std.specs.Cmp.Lexicographic.{slice_cmp}
use Rattle.std.specs.List.{ends_with, starts_with}
use Rattle.std.specs.Map.{lookup}
use Rattle.std.specs.Option.{IsSome, option_map_or}
use denote.Ref.{Bor}
use Rattle.npm_texts.specs.Texts.{rest_after}
use Rattle.npm_lock.specs.Private.Patterns.{HasStart, HasText, is_rest}
use Rattle.npm_lock.specs.Private.PatternSteps.{has_glob_byte, is_base, is_matched, is_read, is_whole, stem_of}

-- ---- one more text

module _ {X : Type 0} (old new : BTreeMap (Bor (List ℕ)) X) (value : X) (text other : List ℕ) where
  by_text : (b : Bool) → bytes_eq text other ≡ b
      → IsSome (cond b (Some value) (lookup (is_at (λ k. slice_cmp nat_cmp other k.now)) old.entries))
      ↔ (HasText old other ⊎ (text ≡ other))
  by_text true is = ((λ some. inr ((bytes_eq-Decides text other).0 is)), (λ either. refl))
  by_text false is = (
    (λ some. inl some),
    (λ either. elim either [
      | inl has ↦ has
      | inr same ↦ cc (is, (bytes_eq-Decides text other).1 same)
    ]),
  )

  pub one_text : UpdatesBy (λ x y. slice_cmp nat_cmp x.now y.now) (λ k. slice_cmp nat_cmp text k.now) old new
      (Some value)
      → HasText new other ↔ (HasText old other ⊎ (text ≡ other))
  one_text updates =
      rw (btree_map_updates_str text old new (Some value) updates other) (by_text (bytes_eq text other) refl)

-- ---- one more stem

module _ (is_tree : Bool) (stem folder : List ℕ) where
  -- the stars match the rest after the stem
  by_start : (b : Bool) → b ≡ starts_with nat_eq folder stem
      → IsTrue (option_map_or (is_rest is_tree) (cond b (Some (drop (length stem) folder)) None) false)
      ↔ ((rest : List ℕ) × (folder ≡ stem ++ rest) × (is_rest is_tree rest ≡ true))
  by_start true is = (
    (λ matched. (drop (length stem) folder, (starts_is Decides-eqb folder stem true is).0 refl, matched)),
    (λ rest.
        let same : drop (length stem) folder ≡ rest.0 = rw rest.1 (drop-append_seam stem rest.0) in
        rw same rest.2),
  )
  by_start false is = (
    (λ matched. cc matched),
    (λ rest. cc ((starts_is Decides-eqb folder stem false is).1 rest.0 rest.1)),
  )

  pub rest_is : IsTrue (option_map_or (is_rest is_tree) (rest_after stem folder) false)
      ↔ ((rest : List ℕ) × (folder ≡ stem ++ rest) × (is_rest is_tree rest ≡ true))
  rest_is = by_start (starts_with nat_eq folder stem) refl

  module _ {X : Type 0} (old new : BTreeMap (Bor (List ℕ)) X) (whole : is_whole stem ≡ true)
      (more : (text : List ℕ) → HasText new text ↔ (HasText old text ⊎ (stem ≡ text))) where
    pub with_stem : HasStart new is_tree folder
        ↔ (HasStart old is_tree folder ⊎ IsTrue (option_map_or (is_rest is_tree) (rest_after stem folder) false))
    with_stem = (
      (λ has. elim ((more has.start).0 has.there) [
        | inl there ↦ inl (record {
          start = has.start;
          rest = has.rest;
          whole = has.whole;
          there = there;
          at_part = has.at_part;
          matched = has.matched;
        })
        | inr same ↦ inr (rest_is.1 (has.rest, rw same has.whole, has.matched))
      ]),
      (λ either. elim either [
        | inl has ↦ record {
          start = has.start;
          rest = has.rest;
          whole = has.whole;
          there = (more has.start).1 (inl has.there);
          at_part = has.at_part;
          matched = has.matched;
        }
        | inr after ↦
            let is = rest_is.0 after in
            record {
              start = stem;
              rest = is.0;
              whole = is.1;
              there = (more stem).1 (inr refl);
              at_part = whole;
              matched = is.2;
            }
      ]),
    )

-- ---- one more pattern

pub either_true : (a b : Bool) → IsTrue (a || b) ↔ (IsTrue a ⊎ IsTrue b)
either_true true b = ((λ is. inl refl), (λ either. refl))
either_true false b = (
  (λ is. inr is),
  (λ either. elim either [
    | inl is ↦ cc is
    | inr is ↦ is
  ]),
)

-- one of three is more
module _ {First Second Third More Both : Type 0} where
  pub first_more : More ↔ (First ⊎ Both) → (More ⊎ Second ⊎ Third) ↔ ((First ⊎ Second ⊎ Third) ⊎ Both)
  first_more more = (
    (λ either. elim either [
      | inl m ↦ elim (more.0 m) [
        | inl first ↦ inl (inl first)
        | inr both ↦ inr both
      ]
      | inr others ↦ inl (inr others)
    ]),
    (λ either. elim either [
      | inl old ↦ elim old [
        | inl first ↦ inl (more.1 (inl first))
        | inr others ↦ inr others
      ]
      | inr both ↦ inl (more.1 (inr both))
    ]),
  )

  pub second_more : More ↔ (Second ⊎ Both) → (First ⊎ More ⊎ Third) ↔ ((First ⊎ Second ⊎ Third) ⊎ Both)
  second_more more = (
    (λ either. elim either [
      | inl first ↦ inl (inl first)
      | inr others ↦ elim others [
        | inl m ↦ elim (more.0 m) [
          | inl second ↦ inl (inr (inl second))
          | inr both ↦ inr both
        ]
        | inr third ↦ inl (inr (inr third))
      ]
    ]),
    (λ either. elim either [
      | inl old ↦ elim old [
        | inl first ↦ inl first
        | inr others ↦ elim others [
          | inl second ↦ inr (inl (more.1 (inl second)))
          | inr third ↦ inr (inr third)
        ]
      ]
      | inr both ↦ inr (inl (more.1 (inr both)))
    ]),
  )

-- both the first and the third are more
pub both_more : {First Second Third Firsts Thirds Base Rest Both : Type 0} → Firsts ↔ (First ⊎ Base)
    → Thirds ↔ (Third ⊎ Rest) → Both ↔ (Base ⊎ Rest)
    → (Firsts ⊎ Second ⊎ Thirds) ↔ ((First ⊎ Second ⊎ Third) ⊎ Both)
both_more firsts thirds both = (
  (λ either. elim either [
    | inl f ↦ elim (firsts.0 f) [
      | inl first ↦ inl (inl first)
      | inr base ↦ inr (both.1 (inl base))
    ]
    | inr others ↦ elim others [
      | inl second ↦ inl (inr (inl second))
      | inr t ↦ elim (thirds.0 t) [
        | inl third ↦ inl (inr (inr third))
        | inr rest ↦ inr (both.1 (inr rest))
      ]
    ]
  ]),
  (λ either. elim either [
    | inl old ↦ elim old [
      | inl first ↦ inl (firsts.1 (inl first))
      | inr others ↦ elim others [
        | inl second ↦ inr (inl second)
        | inr third ↦ inr (inr (thirds.1 (inl third)))
      ]
    ]
    | inr b ↦ elim (both.0 b) [
      | inl base ↦ inl (firsts.1 (inr base))
      | inr rest ↦ inr (inr (thirds.1 (inr rest)))
    ]
  ]),
)

-- ---- the kinds of patterns

if_star : (glob star whole : Bool) → star ≡ true → (not glob && (if star then whole else not whole)) ≡ true
    → whole ≡ true
if_star true star whole is read = cc read
if_star false true whole is read = read
if_star false false whole is read = cc is

module _ (d s tree star plain : Bool) where
  by_tree : d ≡ true → (if d then tree else (if s then star else plain)) ≡ tree
  by_tree is = rw is refl

  by_star : d ≡ false → s ≡ true → (if d then tree else (if s then star else plain)) ≡ star
  by_star shallow is = rw (shallow, is) refl

  by_folder : d ≡ false → s ≡ false → (if d then tree else (if s then star else plain)) ≡ plain
  by_folder shallow is = rw (shallow, is) refl

module _ (pattern : List ℕ) where
  -- the text before the stars of a pattern that is read is empty, or ends with a `/`
  whole_stem : is_read pattern ≡ true → ends_with nat_eq pattern (codes "*") ≡ true
      → is_whole (stem_of pattern) ≡ true
  whole_stem read star = if_star (has_glob_byte (stem_of pattern)) (ends_with nat_eq pattern (codes "*")) _ star read

  ends_star : ends_with nat_eq pattern (codes "**") ≡ true → ends_with nat_eq pattern (codes "*") ≡ true
  ends_star deep =
      let front = take (length pattern - 2) pattern in
      let both : pattern ≡ front ++ (42 ∷ 42 ∷ []) = (ends_is Decides-eqb pattern (codes "**") true (sym deep)).0 refl in
      (ends_is Decides-eqb pattern (codes "*") _ refl).1 (front ++ (42 ∷ []))
      (both ∙ sym (append_assoc front (42 ∷ []) (42 ∷ [])))

  module _ {X : Type 0} (old new : BTreeMap (Bor (List ℕ)) X) (folder : List ℕ) where
    pub folder_more : ends_with nat_eq pattern (codes "**") ≡ false → ends_with nat_eq pattern (codes "*") ≡ false
        → {Second Third : Type 0} → HasText new folder ↔ (HasText old folder ⊎ (pattern ≡ folder))
        → (HasText new folder ⊎ Second ⊎ Third)
        ↔ ((HasText old folder ⊎ Second ⊎ Third) ⊎ IsTrue (is_matched folder pattern))
    folder_more shallow plain more = rw (by_folder _ _ _ _ _ shallow plain) (first_more (
      (λ has. elim (more.0 has) [
        | inl there ↦ inl there
        | inr same ↦ inr ((bytes_eq-Decides pattern folder).1 same)
      ]),
      (λ either. elim either [
        | inl there ↦ more.1 (inl there)
        | inr is ↦ more.1 (inr ((bytes_eq-Decides pattern folder).0 is))
      ]),
    ))

    pub star_more : is_read pattern ≡ true → ends_with nat_eq pattern (codes "**") ≡ false
        → ends_with nat_eq pattern (codes "*") ≡ true → {First Third : Type 0}
        → ((text : List ℕ) → HasText new text ↔ (HasText old text ⊎ (stem_of pattern ≡ text)))
        → (First ⊎ HasStart new false folder ⊎ Third)
        ↔ ((First ⊎ HasStart old false folder ⊎ Third) ⊎ IsTrue (is_matched folder pattern))
    star_more read shallow star more = rw (by_star _ _ _ _ _ shallow star)
        (second_more (with_stem false (stem_of pattern) folder old new (whole_stem read star) more))

    pub tree_more : is_read pattern ≡ true → ends_with nat_eq pattern (codes "**") ≡ true
        → {First Firsts Second : Type 0} → Firsts ↔ (First ⊎ IsTrue (is_base folder (stem_of pattern)))
        → ((text : List ℕ) → HasText new text ↔ (HasText old text ⊎ (stem_of pattern ≡ text)))
        → (Firsts ⊎ Second ⊎ HasStart new true folder)
        ↔ ((First ⊎ Second ⊎ HasStart old true folder) ⊎ IsTrue (is_matched folder pattern))
    tree_more read deep bases more = rw (by_tree _ _ _ _ _ deep)
        (both_more bases (with_stem true (stem_of pattern) folder old new (whole_stem read (ends_star deep)) more)
        (either_true (is_base folder (stem_of pattern)) _))

-- ---- the starts of a folder

last_byte : (front : List ℕ) (b : ℕ) → drop (length (front ++ (b ∷ [])) - 1) (front ++ (b ∷ [])) ≡ b ∷ []
last_byte front b =
    let size : length (front ++ (b ∷ [])) - 1 ≡ length front = omega (arith, length-append front (b ∷ [])) in
    rw size (drop-append_seam front (b ∷ []))

same_slash : (b : ℕ) → ((47 == b) && true) ≡ (b == 47)
same_slash b = grind (arith, nat_tests)

some_bytes : (front : List ℕ) (b : ℕ) → (length (front ++ (b ∷ [])) == 0) ≡ false
some_bytes front b = grind (arith, nat_tests, length-append front (b ∷ []))

ends_part : (front : List ℕ) (b : ℕ) → is_whole (front ++ (b ∷ [])) ≡ (b == 47)
ends_part front b = rw (some_bytes front b, last_byte front b) (same_slash b)

-- a part begins after a `/`
pub part_after : (folder : List ℕ) (at : ℕ) → at < length folder
    → is_whole (take (at + 1) folder) ≡ (slice_index_or folder at 0 == 47)
part_after folder at small =
    rw (add-one at, take-suc folder at 0 small) (ends_part (take at folder) (slice_index_or folder at 0))

-- a star matches no empty text
some_rest : (is_tree : Bool) (rest : List ℕ) → is_rest is_tree rest ≡ true → 0 < length rest
some_rest true [] matched = cc matched
some_rest false [] matched = cc matched
some_rest is_tree (b ∷ rest) matched = omega arith

-- `&folder[at..]`
pub whole_rest : (folder : List ℕ) (at : ℕ) → take (length folder - at) (drop at folder) ≡ drop at folder
whole_rest folder at =
    let size : length (drop at folder) ≡ length folder - at = length-drop at folder in
    rw (← size) (take-length (drop at folder))

-- no start of the folder that is shorter is one of the texts
module _ {X : Type 0} (texts : BTreeMap (Bor (List ℕ)) X) (is_tree : Bool) (folder : List ℕ) where
  abbrev pub HasNone : (at : ℕ) → Type 0
  HasNone at = (start rest : List ℕ) → folder ≡ start ++ rest → length start < at → HasText texts start
      → is_whole start ≡ true → is_rest is_tree rest ≡ true → ⊥

  pub none_yet : HasNone 0
  none_yet start rest is small = absurd (omega (arith, small))

  pub one_passed : (at : ℕ) → at < length folder → HasNone at
      → (HasText texts (take at folder) → is_whole (take at folder) ≡ true → is_rest is_tree (drop at folder) ≡ true → ⊥)
      → HasNone (at + 1)
  one_passed at inside none here start rest is small there whole matched = elim (cases_lt (length start) at) [
    | inl less ↦ none start rest is less there whole matched
    | inr more ↦
        let size : length start ≡ at = omega (arith, small, more) in
        let first : take at folder ≡ start = rw (is, ← size) (take-append_seam start rest) in
        let left : drop at folder ≡ rest = rw (is, ← size) (drop-append_seam start rest) in
        here (rw first there) (rw first whole) (rw left matched)
  ]

  pub none_at_all : HasNone (length folder) → ¬ HasStart texts is_tree folder
  none_at_all none has = none has.start has.rest has.whole
      (omega (arith, some_rest is_tree has.rest has.matched, ap (λ t. length t) has.whole ∙ length-append has.start has.rest))
      has.there has.at_part has.matched

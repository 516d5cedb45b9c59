-- Lists that are gathered item by item.
use Rattle.std.proofs.Common.{Global, String, string_bytes, ◌≡◌, ◌∙◌, ℕ, ◌+◌, ◌<◌, ◌≤◌, List, [], ◌∷◌, ◌++◌, ap, append_assoc, append-nil, arith, get_or, length, map, subst, sym, take}
use Rattle.std.proofs.lemmas.List.{get_or-map, length-map, map-append, map_more, take_all}
use Rattle.std.proofs.lemmas.List.Concat.{flat_map-append}
use Rattle.std.proofs.lemmas.List.Elements.{Contains-get_or}
use Rattle.std.specs.List.{Contains, flat_map}

module _ {A X : Type 0} (seen : A → X) (items : List A) where
  -- the value of one item more, where the item has a name
  pub seen_more : (i : ℕ) (item : A) → i < length items → item ≡ get_or items i item
      → map seen (take (i + 1) items) ≡ map seen (take i items) ++ (seen item ∷ [])
  seen_more i item small here =
      map_more seen items i item small ∙ ap (λ x. map seen (take i items) ++ (seen x ∷ [])) (sym here)

  -- the value of an item is one of theirs
  pub seen_there : (i : ℕ) (none : A) → i < length items → Contains (map seen items) (seen (get_or items i none))
  seen_there i none small = subst (Contains (map seen items)) (get_or-map seen items i none (seen none) small)
      (Contains-get_or (map seen items) i (seen none) (omega (arith, length-map items seen, small)))

  -- the value of an item more behind a list
  pub pushed_at : (start old new : List X) (i : ℕ) (none : A) → i < length items
      → new ≡ old ++ (seen (get_or items i none) ∷ []) → old ≡ start ++ map seen (take i items)
      → new ≡ start ++ map seen (take (i + 1) items)
  pushed_at start old new i none small is held =
      let one = seen (get_or items i none) ∷ [] in
      is ∙ ap (λ l. l ++ one) held ∙ append_assoc start (map seen (take i items)) one
      ∙ ap (λ l. start ++ l) (sym (map_more seen items i none small))

  -- the same where the item has a name
  pub pushed_more : (start old new : List X) (i : ℕ) (item : A) → i < length items → item ≡ get_or items i item
      → new ≡ old ++ (seen item ∷ []) → old ≡ start ++ map seen (take i items)
      → new ≡ start ++ map seen (take (i + 1) items)
  pushed_more start old new i item small here is held =
      pushed_at start old new i item small (is ∙ ap (λ x. old ++ (seen x ∷ [])) here) held

  module _ {Y : Type 0} (made : X → List Y) (start : List Y) where
    -- an item more makes this more
    pub made_at : (i : ℕ) (none : A) (old new : List Y) → i < length items
        → new ≡ old ++ made (seen (get_or items i none)) → old ≡ start ++ flat_map made (map seen (take i items))
        → new ≡ start ++ flat_map made (map seen (take (i + 1) items))
    made_at i none old new small is held =
        let item = get_or items i none in
        let before = flat_map made (map seen (take i items)) in
        let one : flat_map made (seen item ∷ []) ≡ made (seen item) = append-nil (made (seen item)) in
        let all : flat_map made (map seen (take (i + 1) items)) ≡ before ++ made (seen item) =
        ap (flat_map made) (map_more seen items i none small) ∙ flat_map-append made (map seen (take i items)) (seen item ∷ [])
        ∙ ap (λ l. before ++ l) one in
        is ∙ ap (λ l. l ++ made (seen item)) held ∙ append_assoc start before (made (seen item))
        ∙ ap (λ l. start ++ l) (sym all)

    -- the same where the item has a name
    pub made_more : (i : ℕ) (item : A) (old new : List Y) → i < length items → item ≡ get_or items i item
        → new ≡ old ++ made (seen item) → old ≡ start ++ flat_map made (map seen (take i items))
        → new ≡ start ++ flat_map made (map seen (take (i + 1) items))
    made_more i item old new small here is held =
        made_at i item old new small (is ∙ ap (λ x. old ++ made (seen x)) here) held

    -- the same after the last one
    pub made_all : (i : ℕ) (old : List Y) → length items ≤ i → old ≡ start ++ flat_map made (map seen (take i items))
        → old ≡ start ++ flat_map made (map seen items)
    made_all i old past held = held ∙ ap (λ l. start ++ flat_map made (map seen l)) (take_all i items past)

-- an item more, by its value
pub pushed-seen : {V Y : Type 0} (seen : V → Y) (old new : List V) (value : V) (made : Y) → new ≡ old ++ (value ∷ [])
    → seen value ≡ made → map seen new ≡ map seen old ++ (made ∷ [])
pushed-seen seen old new value made is same = ap (map seen) is ∙ map-append seen old (value ∷ [])
    ∙ ap (λ y. map seen old ++ (y ∷ [])) same

-- the same of texts
pub pushed : (old new : List (String Global)) (text : String Global) (made : List ℕ) → new ≡ old ++ (text ∷ [])
    → string_bytes text ≡ made → map string_bytes new ≡ map string_bytes old ++ (made ∷ [])
pushed = pushed-seen string_bytes

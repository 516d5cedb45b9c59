-- The folders in which a name is looked up from another, and the package that is found there.
use Rattle.std.proofs.Common.{◌≡◌, ◌≢◌, ◌∙◌, ◌⊎◌, ◌<◌, ◌≤◌, ◌+◌, ℕ, List, [], ◌∷◌, ◌++◌, false, Some}
use Rattle.std.proofs.Common.{None, ap, append_assoc, arith, codes, inl, inr, length, refl, sym}
use Rattle.std.proofs.lemmas.List.{length-append}
use Rattle.serde_json.specs.Data.{Data}
use Rattle.npm_packages.specs.Folders.{IsAbove, IsOutermost, is_modules, place_in}
use Rattle.npm_packages.specs.Packages.{IsFound, IsFoundIn, IsPassed, Package, above as found_above, here, nowhere}
use Rattle.npm_packages.specs.Lookups.{IsReached, above, itself}
use Rattle.npm_packages.specs.Index.{IsFront}
use Rattle.npm_packages.proofs.Fronts.{has_slash, parted, same_cut}

-- ---- the folder above

some_length : (folder : List ℕ) → folder ≢ [] → 0 < length folder
some_length [] some = absurd (some refl)
some_length (b ∷ folder) some = omega arith

pub shorter : (folder parent : List ℕ) → IsAbove folder parent → length parent < length folder
shorter folder parent is = elim is.whole [
  | inl inside ↦
      let whole : length folder ≡ length parent + length (codes "/" ++ is.name) =
      ap (λ t. length t) inside ∙ length-append parent (codes "/" ++ is.name) in
      let rest : length (codes "/" ++ is.name) ≡ length (codes "/") + length is.name = length-append (codes "/") is.name
      in
      omega (arith, whole, rest)
  | inr first ↦ let some = some_length folder first.1 in rw first.0 some
]

no_above : (folder parent : List ℕ) → IsOutermost folder → IsAbove folder parent → ⊥
no_above folder parent last is = elim last [
  | inl empty ↦ let less = shorter folder parent is in absurd (omega (arith, less, ap (λ t. length t) empty))
  | inr up ↦ cc (up, is.inside)
]

same_above : (folder parent other : List ℕ) → IsAbove folder parent → IsAbove folder other → parent ≡ other
same_above folder parent other first second = elim first.whole [
  | inl whole ↦ elim second.whole [
    | inl more ↦ (same_cut parent other first.name second.name (sym whole ∙ more) first.one_part second.one_part).0
    | inr more ↦ absurd (has_slash parent first.name (rw (sym more.2 ∙ whole) at second.one_part))
  ]
  | inr whole ↦ elim second.whole [
    | inl more ↦ absurd (has_slash other second.name (rw (sym whole.2 ∙ more) at first.one_part))
    | inr more ↦ whole.0 ∙ sym more.0
  ]
]

-- ---- beginnings of a path

-- a beginning of the folder above is one of the folder
front_on : (folder parent front : List ℕ) → IsAbove folder parent → IsFront parent front → IsFront folder front
front_on folder parent front is of_above = elim is.whole [
  | inl whole ↦ elim of_above [
    | inl empty ↦ inl empty
    | inr some ↦ elim some [
      | inl same ↦ inr (inr (is.name, rw same at whole))
      | inr more ↦ inr (inr (
        more.0 ++ (47 ∷ is.name),
        rw more.1 at whole ∙ append_assoc front (47 ∷ more.0) (47 ∷ is.name),
      ))
    ]
  ]
  | inr whole ↦ elim of_above [
    | inl empty ↦ inl empty
    | inr some ↦ elim some [
      | inl same ↦ inl (sym same ∙ whole.0)
      | inr more ↦ absurd (omega (
        arith,
        ap (λ t. length t) (sym whole.0 ∙ more.1),
        length-append front (47 ∷ more.0),
      ))
    ]
  ]
]

-- a beginning of a folder is the folder, or one of the folder above
front_up : (folder parent front : List ℕ) → IsAbove folder parent → IsFront folder front
    → (front ≡ folder) ⊎ IsFront parent front
front_up folder parent front is of_folder = elim of_folder [
  | inl empty ↦ inr (inl empty)
  | inr some ↦ elim some [
    | inl same ↦ inl (sym same)
    | inr rest ↦ elim is.whole [
      | inl whole ↦ elim (parted front rest.0 parent is.name (sym rest.1 ∙ whole) is.one_part) [
        | inl same ↦ inr (inr (inl (sym same)))
        | inr more ↦ inr (inr (inr more))
      ]
      | inr whole ↦ absurd (has_slash front rest.0 (rw (sym whole.2 ∙ rest.1) at is.one_part))
    ]
  ]
]

whole_front : (folder front : List ℕ) → IsFront folder front → length folder ≤ length front → front ≡ folder
whole_front folder front is long = elim is [
  | inl empty ↦ by_length folder (omega (arith, long, ap (λ t. length t) empty)) empty
  | inr some ↦ elim some [
    | inl same ↦ sym same
    | inr rest ↦ absurd (omega (arith, long, ap (λ t. length t) rest.1, length-append front (47 ∷ rest.0)))
  ]
] where
  by_length : (path : List ℕ) → length path ≡ 0 → front ≡ [] → front ≡ path
  by_length [] none empty = empty
  by_length (b ∷ path) none empty = absurd (omega (arith, none))

-- ---- the folders that are reached

pub reached_shorter : {from to : List ℕ} → IsReached from to → length to ≤ length from
reached_shorter (itself folder) = omega arith
reached_shorter (above folder parent to is rest) = omega (arith, shorter folder parent is, reached_shorter rest)

pub reached_same : {from to : List ℕ} → IsReached from to → length from ≤ length to → to ≡ from
reached_same (itself folder) long = refl
reached_same (above folder parent to is rest) long =
    absurd (omega (arith, long, shorter folder parent is, reached_shorter rest))

pub reached_on : {from to : List ℕ} → IsReached from to → (next : List ℕ) → IsAbove to next → IsReached from next
reached_on (itself folder) next is = above folder next next is (itself next)
reached_on (above folder parent to first rest) next is = above folder parent next first (reached_on rest next is)

pub reached_front : {from to : List ℕ} → IsReached from to → IsFront from to
reached_front (itself folder) = inr (inl refl)
reached_front (above folder parent to is rest) = front_on folder parent to is (reached_front rest)

-- a beginning that is no shorter than a folder that is reached is reached too
pub front_reached : {from to : List ℕ} → IsReached from to → (front : List ℕ) → IsFront from front
    → length to ≤ length front → IsReached from front
front_reached (itself folder) front is long = rw (whole_front folder front is long) (itself folder)
front_reached (above folder parent to is_above rest) front is long = elim (front_up folder parent front is_above is) [
  | inl same ↦ rw same (itself folder)
  | inr later ↦ above folder parent front is_above (front_reached rest front later long)
]

-- none that is reached is shorter than the outermost one
pub reached_within : {from outermost to : List ℕ} → IsReached from to → IsReached from outermost
    → IsOutermost outermost → length outermost ≤ length to
reached_within (itself folder) other last = reached_shorter other
reached_within (above folder parent to is rest) (itself _) last = absurd (no_above folder parent last is)
reached_within (above folder parent to is rest) (above _ second outermost is_second others) last =
    reached_within rest (rw (same_above folder second parent is_second is) at others) last

-- ---- the package that is found

module _ (packages : Data) (name : List ℕ) where
  -- the name is passed in all folders that are nearer
  pub found_in_nearest : {from to : List ℕ} → IsReached from to → (found : Package) → IsFoundIn packages name to found
      → ((nearer : List ℕ) → IsReached from nearer → length to < length nearer → IsPassed packages name nearer)
      → IsFound packages name from (Some found)
  found_in_nearest (itself folder) found is passed = here folder found is
  found_in_nearest (above folder parent to is_above rest) found is passed =
      found_above folder parent (Some found)
      (passed folder (itself folder) (omega (arith, shorter folder parent is_above, reached_shorter rest))) is_above
      (found_in_nearest rest found is
      (λ nearer reached long. passed nearer (above folder parent nearer is_above reached) long))

  -- the name is passed in all folders
  pub found_in_none : {from to : List ℕ} → IsReached from to → IsOutermost to
      → ((folder : List ℕ) → IsReached from folder → IsPassed packages name folder) → IsFound packages name from None
  found_in_none (itself folder) last passed = nowhere folder (passed folder (itself folder)) last
  found_in_none (above folder parent to is_above rest) last passed =
      found_above folder parent None (passed folder (itself folder)) is_above
      (found_in_none rest last (λ other reached. passed other (above folder parent other is_above reached)))

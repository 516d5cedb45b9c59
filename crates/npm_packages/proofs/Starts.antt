-- Beginnings that two paths share, and the folder above a path by its text.
use Rattle.std.proofs.Common.{◌≡◌, ◌∙◌, ◌<◌, ◌≤◌, ◌+◌, ℕ, List, [], ◌∷◌, ◌++◌, ap, append-nil, append_assoc, arith}
use Rattle.std.proofs.Common.{inl, inr, length, refl, sym}
use Rattle.std.proofs.lemmas.List.{length-append}
use Rattle.npm_packages.specs.Index.{IsFront, IsOver}
use Rattle.npm_packages.specs.LastParts.{HasNoSlash}
use Rattle.npm_packages.specs.Private.Search.{BeginsWith}
use Rattle.npm_packages.proofs.Fronts.{has_slash, parted}

-- ---- beginnings

pub begins_front : (path folder : List ℕ) → IsFront path folder → BeginsWith path folder
begins_front path folder is = elim is [
  | inl empty ↦ (path, ap (λ t. t ++ path) (sym empty))
  | inr some ↦ elim some [
    | inl same ↦ ([], same ∙ sym (append-nil folder))
    | inr rest ↦ (47 ∷ rest.0, rest.1)
  ]
]

-- a text begins with the shorter one of two of its beginnings
cut : (a b c d : List ℕ) → a ++ b ≡ c ++ d → length a ≤ length c → (rest : List ℕ) × (c ≡ a ++ rest)
cut [] b c d is long = (c, refl)
cut (x ∷ a) b [] d is long = absurd (omega (arith, long))
cut (x ∷ a) b (y ∷ c) d is long =
    let first : x ≡ y = cc is in
    let others : a ++ b ≡ c ++ d = cc is in
    let more = cut a b c d others (omega (arith, long)) in
    (more.0, cc (first, more.1))

pub within : (text a c : List ℕ) → BeginsWith text a → BeginsWith text c → length a ≤ length c → BeginsWith c a
within text a c of_a of_c long = cut a of_a.0 c of_c.0 (sym of_a.1 ∙ of_c.1) long

-- the text after a beginning that is shorter than another one
behind : (folder rest start more : List ℕ) → folder ++ (47 ∷ rest) ≡ start ++ more → length folder < length start
    → (between : List ℕ) × (start ≡ folder ++ (47 ∷ between))
behind [] rest [] more is less = absurd (omega (arith, less))
behind [] rest (y ∷ start) more is less =
    let first : y ≡ 47 = cc is in (start, ap (λ b. b ∷ start) first)
behind (x ∷ folder) rest [] more is less = absurd (omega (arith, less))
behind (x ∷ folder) rest (y ∷ start) more is less =
    let first : x ≡ y = cc is in
    let others : folder ++ (47 ∷ rest) ≡ start ++ more = cc is in
    let later = behind folder rest start more others (omega (arith, less)) in
    (later.0, cc (first, later.1))

-- of two paths that begin alike the same folders are above, as far as they begin alike
pub front_shared : (path other start folder : List ℕ) → BeginsWith path start → BeginsWith other start
    → IsFront path folder → length folder < length start → IsFront other folder
front_shared path other start folder of_path of_other is less = elim is [
  | inl empty ↦ inl empty
  | inr some ↦ elim some [
    | inl same ↦ absurd (omega (
      arith,
      less,
      ap (λ t. length t) same,
      ap (λ t. length t) of_path.1,
      length-append start of_path.0,
    ))
    | inr rest ↦
        let later = behind folder rest.0 start of_path.0 (sym rest.1 ∙ of_path.1) less in
        inr (inr (
          later.0 ++ of_other.0,
          of_other.1 ∙ ap (λ t. t ++ of_other.0) later.1 ∙ append_assoc folder (47 ∷ later.0) of_other.0,
        ))
  ]
]

-- ---- the folder above

some_longer : (folder : List ℕ) → (folder ≡ [] → ⊥) → 0 < length folder
some_longer [] some = absurd (some refl)
some_longer (b ∷ folder) some = omega arith

-- what is above a path is its folder above, or above that
module _ (path parent last folder : List ℕ) (whole : path ≡ parent ++ (47 ∷ last)) where
  size : length path ≡ length parent + length (47 ∷ last)
  size = ap (λ t. length t) whole ∙ length-append parent (47 ∷ last)

  pub over_parent : IsFront parent folder → IsOver path folder
  over_parent is = elim is [
    | inl empty ↦ (inl empty, omega (arith, size, ap (λ t. length t) empty))
    | inr some ↦ elim some [
      | inl same ↦ (inr (inr (last, rw same at whole)), omega (arith, size, ap (λ t. length t) same))
      | inr rest ↦ (
        inr (inr (
          rest.0 ++ (47 ∷ last),
          whole ∙ ap (λ t. t ++ (47 ∷ last)) rest.1 ∙ append_assoc folder (47 ∷ rest.0) (47 ∷ last),
        )),
        omega (arith, size, ap (λ t. length t) rest.1, length-append folder (47 ∷ rest.0)),
      )
    ]
  ]

  pub parent_over : HasNoSlash last → IsOver path folder → IsFront parent folder
  parent_over none is = elim is.0 [
    | inl empty ↦ inl empty
    | inr some ↦ elim some [
      | inl same ↦ absurd (omega (arith, is.1, ap (λ t. length t) same))
      | inr rest ↦ elim (parted folder rest.0 parent last (sym rest.1 ∙ whole) none) [
        | inl same ↦ inr (inl (sym same))
        | inr more ↦ inr (inr more)
      ]
    ]
  ]

-- above a path of one part is the root alone
module _ (path folder : List ℕ) (none : HasNoSlash path) where
  pub over_root : (path ≡ [] → ⊥) → IsFront [] folder → IsOver path folder
  over_root some is = elim is [
    | inl empty ↦ (inl empty, omega (arith, some_longer path some, ap (λ t. length t) empty))
    | inr other ↦ elim other [
      | inl same ↦ (inl (sym same), omega (arith, some_longer path some, ap (λ t. length t) same))
      | inr rest ↦ absurd (omega (arith, ap (λ t. length t) rest.1, length-append folder (47 ∷ rest.0)))
    ]
  ]

  pub root_over : IsOver path folder → IsFront [] folder
  root_over is = elim is.0 [
    | inl empty ↦ inl empty
    | inr some ↦ elim some [
      | inl same ↦ absurd (omega (arith, is.1, ap (λ t. length t) same))
      | inr rest ↦ absurd (has_slash folder rest.0 (rw rest.1 at none))
    ]
  ]

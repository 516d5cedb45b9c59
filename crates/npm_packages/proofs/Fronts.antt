-- Paths that are parted at a `/`, and the places of names in folders.
use Rattle.std.proofs.Common.{◌≡◌, ◌≢◌, ◌∙◌, ◌⊎◌, ℕ, suc, List, [], ◌∷◌, ◌++◌, Option, Some, None, ap, arith}
use Rattle.std.proofs.Common.{◌==◌, append_assoc, codes, drop, false, true, inl, inr, length, refl, sym, take}
use Rattle.std.proofs.lemmas.List.{append_cancel_left, append_cancel_right, length-append, take-append-drop}
use Rattle.std.proofs.lemmas.List.Folds.{list_any_at}
use Rattle.std.proofs.lemmas.Str.Pattern.{NoCharPasses-char, drop_at_char}
use Rattle.std.specs.List.{list_any}
use Rattle.std.specs.Option.{MatchOption}
use Rattle.std.specs.Str.Pattern.{RFindsChar, SplitsAroundMatch}
use denote.Ref.{Bor}
use Rattle.npm_packages.specs.Folders.{place_in}
use Rattle.npm_packages.specs.LastParts.{HasNoSlash, IsEnd, IsLast, IsPlain, alone, plain, scoped}

-- ---- parts

pub has_slash : (xs ys : List ℕ) → HasNoSlash (xs ++ (47 ∷ ys)) → ⊥
has_slash [] ys none = none 0 (omega arith) refl
has_slash (b ∷ xs) ys none = has_slash xs ys (λ i small. none (suc i) (omega (arith, small)))

-- two ways to part a path at its last `/` are the same
pub same_cut : (xs ys a b : List ℕ) → xs ++ (47 ∷ a) ≡ ys ++ (47 ∷ b) → HasNoSlash a → HasNoSlash b
    → (xs ≡ ys) × (a ≡ b)
same_cut [] [] a b is none other = let rest : a ≡ b = cc is in (refl, rest)
same_cut [] (y ∷ ys) a b is none other =
    let rest : a ≡ ys ++ (47 ∷ b) = cc is in absurd (has_slash ys b (rw rest at none))
same_cut (x ∷ xs) [] a b is none other =
    let rest : b ≡ xs ++ (47 ∷ a) = cc is in absurd (has_slash xs a (rw rest at other))
same_cut (x ∷ xs) (y ∷ ys) a b is none other =
    let rest : xs ++ (47 ∷ a) ≡ ys ++ (47 ∷ b) = cc is in
    let more = same_cut xs ys a b rest none other in
    let first : x ≡ y = cc is in
    (cc (first, more.0), more.1)

-- a path that is parted at a `/`, and at the last one
pub parted : (front rest above name : List ℕ) → front ++ (47 ∷ rest) ≡ above ++ (47 ∷ name) → HasNoSlash name
    → (front ≡ above) ⊎ ((more : List ℕ) × (above ≡ front ++ (47 ∷ more)))
parted [] rest [] name is none = inl refl
parted [] rest (b ∷ above) name is none = let first : b ≡ 47 = cc is in inr (above, ap (λ x. x ∷ above) first)
parted (a ∷ front) rest [] name is none =
    let same : name ≡ front ++ (47 ∷ rest) = cc is in absurd (has_slash front rest (rw same at none))
parted (a ∷ front) rest (b ∷ above) name is none =
    let first : a ≡ b = cc is in
    let others : front ++ (47 ∷ rest) ≡ above ++ (47 ∷ name) = cc is in
    elim (parted front rest above name others none) [
      | inl same ↦ inl (cc (first, same))
      | inr more ↦ inr (more.0, cc (first, more.1))
    ]

pub same_last : (path a b : List ℕ) → IsLast path a → IsLast path b → a ≡ b
same_last path a b first second = elim first.whole [
  | inl whole ↦ elim second.whole [
    | inl other ↦ sym whole ∙ other
    | inr other ↦ absurd (has_slash other.0 b (rw (sym whole ∙ other.1) at first.no_slash))
  ]
  | inr whole ↦ elim second.whole [
    | inl other ↦ absurd (has_slash whole.0 a (rw (sym other ∙ whole.1) at second.no_slash))
    | inr other ↦ (same_cut whole.0 other.0 a b (sym whole.1 ∙ other.1) first.no_slash second.no_slash).1
  ]
]

-- the clause of `rsplit_once` at `/`
pub rsplit_parts : (bs : List ℕ) (r : Option (Bor (List ℕ) × Bor (List ℕ)))
    → MatchOption r (RFindsChar 47 bs None) (λ x. SplitsAroundMatch (RFindsChar 47) bs x.0.now x.1.now)
    → MatchOption r (HasNoSlash bs) (λ x. (bs ≡ x.0.now ++ (47 ∷ x.1.now)) × HasNoSlash x.1.now)
rsplit_parts bs None none = λ i small. NoCharPasses-char 47 bs i none (omega arith) small
rsplit_parts bs (Some x) is =
    let here : drop is.0 bs ≡ 47 ∷ drop is.1 bs = drop_at_char 47 bs is.0 is.1 is.2.1 (omega arith) in
    let whole : bs ≡ take is.0 bs ++ drop is.0 bs = sym (take-append-drop is.0 bs) in (
      whole ∙ ap (λ t. take is.0 bs ++ t) here ∙ ap (λ t. t ++ (47 ∷ drop is.1 bs)) (sym is.3)
          ∙ ap (λ t. x.0.now ++ (47 ∷ t)) (sym is.4),
      λ i small. NoCharPasses-char 47 x.1.now i (rw (← is.4) at is.2.0) (omega arith) small,
    )

-- ---- the places of names

-- the folder with a `/`, and nothing for the root
abbrev pub slashed : List ℕ → List ℕ
slashed [] = []
slashed (b ∷ folder) = (b ∷ folder) ++ (47 ∷ [])

pub place_parts : (folder name : List ℕ)
    → place_in folder name ≡ (slashed folder ++ codes "node_modules/") ++ name
place_parts [] name = refl
place_parts (b ∷ folder) name =
    sym (append_assoc ((b ∷ folder) ++ (47 ∷ [])) (codes "node_modules/") name
    ∙ append_assoc (b ∷ folder) (47 ∷ []) (codes "node_modules/" ++ name))

pub slashed_some : (folder : List ℕ) → length folder ≢ 0 → slashed folder ≡ folder ++ (47 ∷ [])
slashed_some [] some = absurd (some refl)
slashed_some (b ∷ folder) some = refl

-- a text that is not empty, and does not end with a `/`, is no folder with its `/`
pub no_slash_at : (modules folder : List ℕ) → modules ≡ slashed folder → length modules ≢ 0
    → ((front : List ℕ) → modules ≢ front ++ (47 ∷ [])) → ⊥
no_slash_at modules [] is some none = some (ap (λ t. length t) is)
no_slash_at modules (b ∷ folder) is some none = none (b ∷ folder) is

-- neither is a `/` alone
pub not_empty_at : (modules front folder : List ℕ) → modules ≡ slashed folder → length modules ≢ 0
    → modules ≡ front ++ (47 ∷ []) → length front ≡ 0 → ⊥
not_empty_at modules front [] is some cut none = some (ap (λ t. length t) is)
not_empty_at modules front (b ∷ folder) is some cut none = absurd (omega (
  arith,
  none,
  ap (λ t. length t) (append_cancel_right (b ∷ folder) front (47 ∷ []) (sym is ∙ cut)),
))

-- what comes before `node_modules/` and the name
pub modules_of : (place inner modules name folder : List ℕ) → place ≡ inner ++ name
    → inner ≡ modules ++ codes "node_modules/" → place ≡ place_in folder name → modules ≡ slashed folder
modules_of place inner modules name folder of_place of_inner is =
    let same : inner ≡ slashed folder ++ codes "node_modules/" =
    append_cancel_right inner (slashed folder ++ codes "node_modules/") name
    (sym of_place ∙ is ∙ place_parts folder name) in
    append_cancel_right modules (slashed folder) (codes "node_modules/") (sym of_inner ∙ same)

pub same_place : (folder other name : List ℕ) → place_in folder name ≡ place_in other name → folder ≡ other
same_place [] [] name is = refl
same_place [] (b ∷ other) name is = absurd (omega (
  arith,
  ap (λ t. length t) is,
  length-append (b ∷ other) (codes "/" ++ (codes "node_modules/" ++ name)),
))
same_place (b ∷ folder) [] name is = absurd (omega (
  arith,
  ap (λ t. length t) is,
  length-append (b ∷ folder) (codes "/" ++ (codes "node_modules/" ++ name)),
))
same_place (b ∷ folder) (c ∷ other) name is =
    append_cancel_right (b ∷ folder) (c ∷ other) (codes "/" ++ (codes "node_modules/" ++ name)) is

last_after : (front name last : List ℕ) → IsLast name last → IsLast (front ++ (47 ∷ name)) last
last_after front name last is = record {
  no_slash = is.no_slash;
  whole = elim is.whole [
    | inl whole ↦ inr (front, ap (λ t. front ++ (47 ∷ t)) whole)
    | inr more ↦ inr (
      front ++ (47 ∷ more.0),
      ap (λ t. front ++ (47 ∷ t)) more.1 ∙ sym (append_assoc front (47 ∷ more.0) (47 ∷ last)),
    )
  ];
}

no_slash_in : (xs : List ℕ) → list_any (λ b. b == 47) xs ≡ false → HasNoSlash xs
no_slash_in xs none i small is = let found : list_any (λ b. b == 47) xs ≡ true = list_any_at (λ b. b == 47) xs i 0 small (rw is refl) in cc (found, none)

-- the folder that holds packages, and the place of a name behind it
modules_in : List ℕ → List ℕ
modules_in [] = codes "node_modules"
modules_in (b ∷ folder) = (b ∷ folder) ++ codes "/node_modules"

place_behind : (folder name : List ℕ) → place_in folder name ≡ modules_in folder ++ (47 ∷ name)
unfolding modules_in
place_behind [] name = refl
place_behind (b ∷ folder) name = sym (append_assoc (b ∷ folder) (codes "/node_modules") (47 ∷ name))

last_modules : (folder : List ℕ) → IsLast (modules_in folder) (codes "node_modules")
unfolding modules_in
last_modules [] = record { no_slash = no_slash_in (codes "node_modules") refl; whole = inl refl }
last_modules (b ∷ folder) =
    record { no_slash = no_slash_in (codes "node_modules") refl; whole = inr (b ∷ folder, refl) }

-- the end of a name is that of its place
pub end_of_place : (folder name end : List ℕ) → IsEnd name end → IsEnd (place_in folder name) end
end_of_place folder name end (alone none is) =
    plain (modules_in folder) (codes "node_modules") (rw is (place_behind folder name)) (rw is none) (last_modules folder)
    refl
end_of_place folder name end (plain above part whole none is_last is) =
    plain (modules_in folder ++ (47 ∷ above)) part
    (place_behind folder name ∙ ap (λ t. modules_in folder ++ (47 ∷ t)) whole
    ∙ sym (append_assoc (modules_in folder) (47 ∷ above) (47 ∷ end))) none
    (last_after (modules_in folder) above part is_last) is
end_of_place folder name end (scoped above part last whole none is_last is is_end) =
    scoped (modules_in folder ++ (47 ∷ above)) part last
    (place_behind folder name ∙ ap (λ t. modules_in folder ++ (47 ∷ t)) whole
    ∙ sym (append_assoc (modules_in folder) (47 ∷ above) (47 ∷ last))) none
    (last_after (modules_in folder) above part is_last) is is_end

-- a path has one end
pub same_end : (path a b : List ℕ) → IsEnd path a → IsEnd path b → a ≡ b
same_end path a b (alone none is) (alone none' is') = is ∙ sym is'
same_end path a b (alone none is) (plain above part whole none' is_last is_plain) =
    absurd (has_slash above b (rw whole at none))
same_end path a b (alone none is) (scoped above part last whole none' is_last is_scoped is') =
    absurd (has_slash above last (rw whole at none))
same_end path a b (plain above part whole none is_last is_plain) (alone none' is') =
    absurd (has_slash above a (rw whole at none'))
same_end path a b (plain above part whole none is_last is_plain) (plain above' part' whole' none' is_last' is_plain') =
    (same_cut above above' a b (sym whole ∙ whole') none none').1
same_end path a b (plain above part whole none is_last is_plain)
    (scoped above' part' last whole' none' is_last' is_scoped is') =
    let cut = same_cut above above' a last (sym whole ∙ whole') none none' in
    let same : part ≡ part' = same_last above part part' is_last (rw (sym cut.0) at is_last') in
    cc (same, is_plain, is_scoped)
same_end path a b (scoped above part last whole none is_last is_scoped is) (alone none' is') =
    absurd (has_slash above last (rw whole at none'))
same_end path a b (scoped above part last whole none is_last is_scoped is)
    (plain above' part' whole' none' is_last' is_plain) =
    let cut = same_cut above above' last b (sym whole ∙ whole') none none' in
    let same : part ≡ part' = same_last above part part' is_last (rw (sym cut.0) at is_last') in
    cc (same, is_plain, is_scoped)
same_end path a b (scoped above part last whole none is_last is_scoped is)
    (scoped above' part' last' whole' none' is_last' is_scoped' is') =
    let cut = same_cut above above' last last' (sym whole ∙ whole') none none' in
    let same : part ≡ part' = same_last above part part' is_last (rw (sym cut.0) at is_last') in
    is ∙ ap (λ t. t ++ (47 ∷ last)) same ∙ ap (λ t. part' ++ (47 ∷ t)) cut.1 ∙ sym is'

-- the part and what comes after it, behind what comes before it
pub scoped_end : (path above part last front rest : List ℕ) → path ≡ above ++ (47 ∷ last) → above ≡ front ++ part
    → path ≡ front ++ rest → rest ≡ part ++ (47 ∷ last)
scoped_end path above part last front rest whole is_part is_rest = append_cancel_left front rest (part ++ (47 ∷ last))
    (sym is_rest ∙ whole ∙ ap (λ t. t ++ (47 ∷ last)) is_part ∙ append_assoc front part (47 ∷ last))

-- a path ends with its last part
pub front_of_last : (above part : List ℕ) → IsLast above part → (front : List ℕ) × (above ≡ front ++ part)
front_of_last above part is = elim is.whole [
  | inl same ↦ ([], same)
  | inr more ↦ (more.0 ++ (47 ∷ []), more.1 ∙ sym (append_assoc more.0 (47 ∷ []) part))
]

-- the end of a path is a plain name
pub plain_end : (path end : List ℕ) → IsEnd path end → IsPlain end
plain_end path end (alone none is) = rw is (alone none refl)
plain_end path end (plain above part whole none last no_scope) = alone none refl
plain_end path end (scoped above part last whole none is_last is_scope is) =
    scoped part part last is none (record { no_slash = is_last.no_slash; whole = inl refl }) is_scope is

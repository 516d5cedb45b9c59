-- Which package a name is found to be, from the root and from a package in its `node_modules`.
use Rattle.std.proofs.Common.{◌≡◌, ◌∙◌, ◌≢◌, ◌⊎◌, ◌==◌, ◌||◌, ◌-◌, ℕ, suc, List, [], ◌∷◌, ◌++◌, Bool, None, Option, Some, ap, arith, codes, false, if◌then◌else◌, inl, inr, length, nat_eq, option_and_then, refl, subst, sym, take, true}
use Rattle.std.proofs.lemmas.Bool.Decides.{Decides-eqb}
use Rattle.std.proofs.lemmas.Slice.Eq.{ends_is}
use Rattle.std.specs.List.{ends_with, list_any}
use Rattle.serde_json.specs.Data.{Data}
use Rattle.serde_json.specs.Find.{get}
use Rattle.npm_packages.specs.Folders.{IsAbove, is_up, place_in}
use Rattle.npm_packages.specs.LastParts.{HasNoSlash, IsEnd, IsPlain, is_scope}
use Rattle.npm_packages.specs.LastParts as LastParts
use Rattle.npm_packages.specs.Packages.{IsFound, IsFoundIn, Package, is_link, package_at, target_of}
use Rattle.npm_packages.specs.Packages as Lookups

-- ---- slashes

abbrev pub has_slash : List ℕ → Bool
has_slash text = list_any (λ b. b == 47) text

or_right : (a b : Bool) → b ≡ true → (a || b) ≡ true
or_right true b h = refl
or_right false b h = h

by_or : (a b : Bool) → (a || b) ≡ false → (a ≡ false) × (b ≡ false)
by_or true b off = absurd (cc off)
by_or false b off = (refl, off)

pub slash_in : (a x : List ℕ) → has_slash (a ++ (47 ∷ x)) ≡ true
slash_in [] x = refl
slash_in (c ∷ a) x = or_right (c == 47) (has_slash (a ++ (47 ∷ x))) (slash_in a x)

pub never : {P : Type 0} (text : List ℕ) → has_slash text ≡ true → has_slash text ≡ false → P
never text on off = absurd (cc (on, off))

no_slash : (text : List ℕ) → HasNoSlash text → has_slash text ≡ false
no_slash [] none = refl
no_slash (c ∷ text) none = both (c == 47) refl (no_slash text (λ i small. none (suc i) (omega (arith, small)))) where
  both : (b : Bool) → (c == 47) ≡ b → has_slash text ≡ false → (b || has_slash text) ≡ false
  both true is rest = absurd (none 0 (omega arith) ((Decides-eqb c 47).0 is))
  both false is rest = rest

-- ---- a text that is cut at a slash

-- the cut at the last slash is one
same_cut : (a b x y : List ℕ) → a ++ (47 ∷ x) ≡ b ++ (47 ∷ y) → has_slash x ≡ false → has_slash y ≡ false → a ≡ b
same_cut [] [] x y is of_x of_y = refl
same_cut [] (c ∷ b) x y is of_x of_y = let rest : x ≡ b ++ (47 ∷ y) = cc is in never x (rw rest (slash_in b y)) of_x
same_cut (c ∷ a) [] x y is of_x of_y = let rest : a ++ (47 ∷ x) ≡ y = cc is in never y (rw (← rest) (slash_in a x)) of_y
same_cut (c ∷ a) (d ∷ b) x y is of_x of_y =
    let first : c ≡ d = cc is in
    let rest : a ++ (47 ∷ x) ≡ b ++ (47 ∷ y) = cc is in
    rw (first, same_cut a b x y rest of_x of_y) refl

same_end : (a b x y : List ℕ) → a ++ (47 ∷ x) ≡ b ++ (47 ∷ y) → has_slash x ≡ false → has_slash y ≡ false → x ≡ y
same_end [] [] x y is of_x of_y = cc is
same_end [] (c ∷ b) x y is of_x of_y = let rest : x ≡ b ++ (47 ∷ y) = cc is in never x (rw rest (slash_in b y)) of_x
same_end (c ∷ a) [] x y is of_x of_y = let rest : a ++ (47 ∷ x) ≡ y = cc is in never y (rw (← rest) (slash_in a x)) of_y
same_end (c ∷ a) (d ∷ b) x y is of_x of_y =
    let rest : a ++ (47 ∷ x) ≡ b ++ (47 ∷ y) = cc is in same_end a b x y rest of_x of_y

-- a text with one slash has none after another
one_slash : (a b x y : List ℕ) → a ++ (47 ∷ x) ≡ b ++ (47 ∷ y) → has_slash b ≡ false → has_slash y ≡ false → has_slash x ≡ false
one_slash [] [] x y is of_b of_y = let same : x ≡ y = cc is in rw same of_y
one_slash [] (c ∷ b) x y is of_b of_y = let first : 47 ≡ c = cc is in never (c ∷ b) (rw (← first) refl) of_b
one_slash (c ∷ a) [] x y is of_b of_y = let rest : a ++ (47 ∷ x) ≡ y = cc is in never y (rw (← rest) (slash_in a x)) of_y
one_slash (c ∷ a) (d ∷ b) x y is of_b of_y =
    let rest : a ++ (47 ∷ x) ≡ b ++ (47 ∷ y) = cc is in
    one_slash a b x y rest (by_or (d == 47) (has_slash b) of_b).1 of_y

-- ---- folders

abbrev pub dir : List ℕ
dir = codes "node_modules"

-- the folder of a name in the `node_modules` of a package
abbrev pub inner : (folder name : List ℕ) → List ℕ
inner folder name = folder ++ (codes "/node_modules/" ++ name)

-- it is the folder of no name in the root's
pub not_plain : (text name : List ℕ) → IsPlain (inner text name) → ⊥
not_plain text name (LastParts.alone none same) =
    never (inner text name) (slash_in text (codes "node_modules/" ++ name)) (no_slash (inner text name) none)
not_plain text name (LastParts.plain above part whole none last scope) =
    never (inner text name) (slash_in text (codes "node_modules/" ++ name)) (no_slash (inner text name) none)
not_plain text name (LastParts.scoped above part last whole none is_last scope same) =
    never (codes "node_modules/" ++ name) (slash_in dir name)
    (one_slash text part (codes "node_modules/" ++ name) last same (no_slash part is_last.no_slash) (no_slash last none))

-- the folder above
above_cut : (folder parent x : List ℕ) → folder ≡ parent ++ (47 ∷ x) → has_slash x ≡ false → (other : List ℕ)
    → IsAbove folder other → other ≡ parent
above_cut folder parent x whole of_x other above = by_whole above.whole where
  of_name : has_slash above.name ≡ false
  of_name = no_slash above.name above.one_part

  by_whole : (folder ≡ other ++ (codes "/" ++ above.name)) ⊎ ((other ≡ []) × (folder ≢ []) × (folder ≡ above.name)) → other ≡ parent
  by_whole (inl is) = same_cut other parent above.name x (sym is ∙ whole) of_name of_x
  by_whole (inr is) = never folder (rw whole (slash_in parent x)) (rw is.2 of_name)

above_dir : (other : List ℕ) → IsAbove dir other → other ≡ []
above_dir other above = elim above.whole [
  | inl is ↦ never dir (ap has_slash is ∙ slash_in other above.name) refl
  | inr is ↦ is.0
]

above_root : (other : List ℕ) → {P : Type 0} → IsAbove [] other → P
above_root other above = elim above.whole [
  | inl is ↦ never [] (ap has_slash is ∙ slash_in other above.name) refl
  | inr is ↦ absurd (is.1 refl)
]

-- a scope is no `..`
ends : (text end : List ℕ) → ends_with nat_eq text end ≡ true → (start : List ℕ) × (text ≡ start ++ end)
ends text end h =
    let is = ends_is Decides-eqb text end (ends_with nat_eq text end) refl in
    (take (length text - length end) text, is.0 h)

scope_down : (part : List ℕ) → is_scope part ≡ true → has_slash part ≡ false → is_up (dir ++ (47 ∷ part)) ≡ false
scope_down part scope none = by_up (is_up (dir ++ (47 ∷ part))) refl where
  by_up : (b : Bool) → is_up (dir ++ (47 ∷ part)) ≡ b → b ≡ false
  by_up false is = refl
  by_up true is =
      let found = ends (dir ++ (47 ∷ part)) (codes "/..") is in
      let same : part ≡ codes ".." = same_end dir found.0 part (codes "..") found.1 none refl in
      let off : is_scope (codes "..") ≡ true = subst (λ (t : List ℕ). is_scope t ≡ true) same scope in
      absurd (cc off)

-- ---- what is found

-- the package at a place that has this member
abbrev pub pick : (packages : Data) → (place : List ℕ) → (entry : Data) → Option Package
pick packages place entry = if is_link entry then target_of packages entry else Some (record { folder = place; member = entry })

-- nothing is installed inside a package
abbrev pub IsFlat : (packages : Data) → (name : List ℕ) → Type 0
IsFlat packages name = (text : List ℕ) → get (inner (dir ++ (47 ∷ text)) name) packages ≡ None

module _ (packages : Data) (name : List ℕ) (flat : IsFlat packages name) where
  from_dir : (found : Option Package) → IsFound packages name dir found → IsFound packages name [] found
  from_dir _ (Lookups.here _ _ is) = absurd (let off : true ≡ false = is.no_modules in (cc off))
  from_dir found (Lookups.above _ parent _ passed is later) =
      subst (λ (f : List ℕ). IsFound packages name f found) (above_dir parent is) later
  from_dir _ (Lookups.nowhere _ passed (inl is)) = absurd (cc is)
  from_dir _ (Lookups.nowhere _ passed (inr is)) = absurd (let off : false ≡ true = is in (cc off))

  not_here : (text : List ℕ) (found : Package) → {P : Type 0} → IsFoundIn packages name (dir ++ (47 ∷ text)) found → P
  not_here text found is =
      let some = is.found in
      let none : package_at packages (place_in (dir ++ (47 ∷ text)) name) ≡ None =
      ap (option_and_then (pick packages (place_in (dir ++ (47 ∷ text)) name))) (flat text) in
      absurd (let off : Some found ≡ None = sym some ∙ none in (cc off))

  module _ (text : List ℕ) (down : is_up (dir ++ (47 ∷ text)) ≡ false) where
    from_below : (parent : List ℕ) (x : List ℕ) → dir ++ (47 ∷ text) ≡ parent ++ (47 ∷ x) → has_slash x ≡ false
        → (found : Option Package) → IsFound packages name (dir ++ (47 ∷ text)) found → IsFound packages name parent found
    from_below parent x whole of_x _ (Lookups.here _ one is) = not_here text one is
    from_below parent x whole of_x found (Lookups.above _ other _ passed is later) =
        subst (λ (f : List ℕ). IsFound packages name f found) (above_cut (dir ++ (47 ∷ text)) parent x whole of_x other is) later
    from_below parent x whole of_x _ (Lookups.nowhere _ passed (inl is)) = absurd (cc is)
    from_below parent x whole of_x _ (Lookups.nowhere _ passed (inr is)) = absurd (cc (is, down))

  -- from the folder of a plain name the name is found as from the root
  pub from_package : (asker : List ℕ) → IsPlain asker → is_up (place_in [] asker) ≡ false → (found : Option Package)
      → IsFound packages name (place_in [] asker) found → IsFound packages name [] found
  from_package asker (LastParts.alone none same) down found is =
      from_dir found (from_below asker down dir asker refl (no_slash asker none) found is)
  from_package asker (LastParts.plain above part whole none last scope) down found is =
      from_dir found (from_below asker down dir asker refl (no_slash asker none) found is)
  from_package asker (LastParts.scoped above part last whole none is_last scope same) down found is =
      let free = no_slash part is_last.no_slash in
      let cut : dir ++ (47 ∷ asker) ≡ (dir ++ (47 ∷ part)) ++ (47 ∷ last) = ap (λ t. dir ++ (47 ∷ t)) same in
      from_dir found (from_below part (scope_down part scope free) dir part refl free found
      (from_below asker down (dir ++ (47 ∷ part)) last cut (no_slash last none) found is))

-- from the root it is the package in its folder
pub at_root : (packages : Data) (name : List ℕ) (found : Package) → IsFound packages name [] (Some found)
    → package_at packages (place_in [] name) ≡ Some found
at_root packages name found (Lookups.here _ _ is) = is.found
at_root packages name found (Lookups.above _ parent _ passed is later) = above_root parent is

pub not_at_root : (packages : Data) (name : List ℕ) → IsFound packages name [] None
    → ¬ IsPlain name ⊎ (package_at packages (place_in [] name) ≡ None)
not_at_root packages name (Lookups.above _ parent _ passed is later) = above_root parent is
not_at_root packages name (Lookups.nowhere _ (inl odd) out) = inl odd
not_at_root packages name (Lookups.nowhere _ (inr (inl modules)) out) = absurd (let off : false ≡ true = modules in (cc off))
not_at_root packages name (Lookups.nowhere _ (inr (inr none)) out) = inr none

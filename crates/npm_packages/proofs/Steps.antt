-- The parts of a folder, and of a package's folder in its `node_modules`.
use Rattle.std.proofs.Common.{◌≡◌, ◌≢◌, ◌∙◌, ◌<◌, ◌≤◌, ◌+◌, ◌==◌, ◌&&◌, ◌||◌, ℕ, zero, suc, List, [], ◌∷◌, ◌++◌, Bool, true, false}
use Rattle.std.proofs.Common.{ap, arith, bytes_eq, codes, eqb-true, if◌then◌else◌, inl, inr, length, nat_le, ne_eqb, not, refl, sym}
use Rattle.std.proofs.lemmas.Bool.{and_parts, cases_Bool, leb-true}
use Rattle.std.proofs.lemmas.List.{length-append}
use Rattle.std.proofs.lemmas.List.Folds.{list_all-append}
use Rattle.std.proofs.lemmas.List.Splits.{length-slice_split, slice_split-cons_no, slice_split-cons_yes}
use Rattle.std.specs.List.{count_by, list_all, onto_first}
use Rattle.npm_packages.specs.Folders.{below_up, ends_in_modules, is_folder, is_step, is_straight, parts_of, place_in}
use Rattle.npm_packages.specs.LastParts.{HasNoSlash}
use Rattle.npm_packages.specs.Private.Folders.{are_steps, before_name}

abbrev is_slash : ℕ → Bool
is_slash b = b == 47

-- ---- the first part

later : (b : ℕ) (part : List ℕ) → HasNoSlash (b ∷ part) → HasNoSlash part
later b part none i small = none (suc i) (omega (arith, small))

pub split_at : (part rest : List ℕ) → HasNoSlash part → parts_of (part ++ (47 ∷ rest)) ≡ part ∷ parts_of rest
split_at [] rest none = slice_split-cons_yes is_slash 47 rest refl
split_at (b ∷ part) rest none =
    slice_split-cons_no is_slash b (part ++ (47 ∷ rest)) (ne_eqb b 47 (none zero (omega arith)))
    ∙ ap (onto_first b) (split_at part rest (later b part none))

pub split_alone : (part : List ℕ) → HasNoSlash part → parts_of part ≡ part ∷ []
split_alone [] none = refl
split_alone (b ∷ part) none =
    slice_split-cons_no is_slash b part (ne_eqb b 47 (none zero (omega arith)))
    ∙ ap (onto_first b) (split_alone part (later b part none))

-- a part that leads up as all before it, or down
abbrev up : (is_up : Bool) → (part : List ℕ) → Bool
up is_up part = is_up && bytes_eq part (codes "..")

-- each part leads down, or also up at the start
abbrev lead : (may_lead_up : Bool) → (parts : List (List ℕ)) → Bool
lead may_lead_up parts = list_all is_step (if may_lead_up then below_up parts else parts)

next_lead : (is_up : Bool) (part : List ℕ) (parts : List (List ℕ)) → lead is_up (part ∷ parts)
    ≡ ((up is_up part || is_step part) && lead (up is_up part) parts)
next_lead false part parts = refl
next_lead true part parts = by_part (bytes_eq part (codes "..")) where
  by_part : (b : Bool) → list_all is_step (if b then below_up parts else part ∷ parts)
      ≡ ((b || is_step part) && lead b parts)
  by_part true = refl
  by_part false = refl

and_true : (a : Bool) → (a && true) ≡ a
and_true true = refl
and_true false = refl

and_assoc : (a b c : Bool) → (a && (b && c)) ≡ ((a && b) && c)
and_assoc true b c = refl
and_assoc false b c = refl

no_steps : (is_up : Bool) → lead is_up [] ≡ true
no_steps true = refl
no_steps false = refl

-- the last part is that of the parts after the first
ends_later : (part : List ℕ) (parts : List (List ℕ)) → 0 < length parts → ends_in_modules (part ∷ parts) ≡ ends_in_modules parts
ends_later part [] some = absurd (omega (arith, some))
ends_later part (next ∷ parts) some = refl

some_parts : (path : List ℕ) → 0 < length (parts_of path)
some_parts path = omega (arith, length-slice_split is_slash path)

next_step : (is_up : Bool) (part : List ℕ) (parts : List (List ℕ)) → 0 < length parts → are_steps is_up (part ∷ parts)
    ≡ ((up is_up part || is_step part) && are_steps (up is_up part) parts)
next_step is_up part parts some =
    ap (λ (r : Bool). r && not (ends_in_modules (part ∷ parts))) (next_lead is_up part parts)
    ∙ ap (λ (e : Bool). ((up is_up part || is_step part) && lead (up is_up part) parts) && not e) (ends_later part parts some)
    ∙ sym (and_assoc (up is_up part || is_step part) (lead (up is_up part) parts) (not (ends_in_modules parts)))

module _ (is_up : Bool) (left : List ℕ) (all : Bool) (same : are_steps is_up (parts_of left) ≡ all) where
  module _ (part rest : List ℕ) (whole : left ≡ part ++ (47 ∷ rest)) (none : HasNoSlash part) where
    next : all ≡ ((up is_up part || is_step part) && are_steps (up is_up part) (parts_of rest))
    next = sym same ∙ ap (λ (t : List ℕ). are_steps is_up (parts_of t)) whole
        ∙ ap (are_steps is_up) (split_at part rest none) ∙ next_step is_up part (parts_of rest) (some_parts rest)

    pub passed : (leads right : Bool) → leads ≡ up is_up part → right ≡ (up is_up part || is_step part) → right ≡ true
        → are_steps leads (parts_of rest) ≡ all
    passed leads right is_leads is_right holds = ap (λ (u : Bool). are_steps u (parts_of rest)) is_leads
        ∙ sym (next ∙ ap (λ (r : Bool). r && are_steps (up is_up part) (parts_of rest)) (sym is_right ∙ holds))

    pub stopped : (right : Bool) → right ≡ (up is_up part || is_step part) → right ≡ false → false ≡ all
    stopped right is_right fails =
        sym (next ∙ ap (λ (r : Bool). r && are_steps (up is_up part) (parts_of rest)) (sym is_right ∙ fails))

  pub ended : HasNoSlash left → (right : Bool)
      → right ≡ ((up is_up left || is_step left) && not (bytes_eq left (codes "node_modules"))) → right ≡ all
  ended none right is_right =
      let lead_on : (up is_up left || is_step left) ≡ lead is_up (left ∷ []) = sym (and_true (up is_up left || is_step left))
      ∙ ap (λ (r : Bool). (up is_up left || is_step left) && r) (sym (no_steps (up is_up left)))
      ∙ sym (next_lead is_up left []) in
      is_right ∙ ap (λ (r : Bool). r && not (bytes_eq left (codes "node_modules"))) lead_on
      ∙ sym (sym same ∙ ap (are_steps is_up) (split_alone left none))

-- ---- a path in a folder

onto-append : (b : ℕ) (parts others : List (List ℕ)) → 0 < length parts
    → onto_first b (parts ++ others) ≡ onto_first b parts ++ others
onto-append b [] others some = absurd (omega (arith, some))
onto-append b (part ∷ parts) others some = refl

pub parts-append : (folder path : List ℕ) → parts_of (folder ++ (47 ∷ path)) ≡ parts_of folder ++ parts_of path
parts-append [] path = slice_split-cons_yes is_slash 47 path refl
parts-append (b ∷ folder) path = elim (cases_Bool (b == 47)) [
  | inl is ↦
      slice_split-cons_yes is_slash b (folder ++ (47 ∷ path)) is
      ∙ ap (λ (l : List (List ℕ)). [] ∷ l) (parts-append folder path)
      ∙ ap (λ (l : List (List ℕ)). l ++ parts_of path) (sym (slice_split-cons_yes is_slash b folder is))
  | inr is_not ↦
      slice_split-cons_no is_slash b (folder ++ (47 ∷ path)) is_not
      ∙ ap (onto_first b) (parts-append folder path)
      ∙ onto-append b (parts_of folder) (parts_of path) (some_parts folder)
      ∙ ap (λ (l : List (List ℕ)). l ++ parts_of path) (sym (slice_split-cons_no is_slash b folder is_not))
]

-- ---- a package in the `node_modules` of a folder

-- a path whose parts lead to a package
abbrev leads_to_package : (path : List ℕ) → Bool
leads_to_package path = are_steps true (parts_of path)

abbrev modules : List ℕ
modules = codes "node_modules"

modules_slash : HasNoSlash modules
modules_slash = no_slash modules refl where
  no_slash : (text : List ℕ) → list_all (λ b. if b == 47 then false else true) text ≡ true → HasNoSlash text
  no_slash [] none i small is = absurd (omega (arith, small))
  no_slash (b ∷ text) none zero small is = let never = rw is at none in cc never
  no_slash (b ∷ text) none (suc i) small is = no_slash text (both (if b == 47 then false else true) _ none) i (omega (arith, small)) is where
    both : (x y : Bool) → (x && y) ≡ true → y ≡ true
    both true y is = is
    both false y is = cc is

-- what comes before other parts does not count
ends_append : (parts names : List (List ℕ)) → 0 < length names → ends_in_modules (parts ++ names) ≡ ends_in_modules names
ends_append [] names some = refl
ends_append (part ∷ parts) names some =
    ends_later part (parts ++ names) (omega (arith, some, length-append parts names)) ∙ ends_append parts names some

below_modules : (parts names : List (List ℕ))
    → list_all is_step (below_up (parts ++ (modules ∷ names))) ≡ (list_all is_step (below_up parts) && list_all is_step names)
below_modules [] names = refl
below_modules (part ∷ parts) names = by_part (bytes_eq part (codes "..")) (below_modules parts names) where
  by_part : (b : Bool) → list_all is_step (below_up (parts ++ (modules ∷ names)))
      ≡ (list_all is_step (below_up parts) && list_all is_step names) → list_all is_step (if b then below_up (parts ++ (modules ∷ names)) else part ∷ (parts ++ (modules ∷ names)))
      ≡ (list_all is_step (if b then below_up parts else part ∷ parts) && list_all is_step names)
  by_part true others = others
  by_part false others = ap (λ (r : Bool). is_step part && r) (list_all-append is_step parts (modules ∷ names))
      ∙ and_assoc (is_step part) (list_all is_step parts) (list_all is_step names)

place_root : (name : List ℕ) → leads_to_package (place_in [] name) ≡ are_steps false (parts_of name)
place_root name = ap (are_steps true) (split_at modules name modules_slash)
    ∙ ap (λ (e : Bool). list_all is_step (parts_of name) && not e) (ends_later modules (parts_of name) (some_parts name))

place_below : (b : ℕ) (folder name : List ℕ) → is_straight (b ∷ folder) ≡ true
    → leads_to_package (place_in (b ∷ folder) name) ≡ are_steps false (parts_of name)
place_below b folder name is =
    let parts : List (List ℕ) = parts_of (b ∷ folder) in
    let names : List (List ℕ) = parts_of name in
    ap (are_steps true) (parts-append (b ∷ folder) (modules ++ (47 ∷ name))
    ∙ ap (λ (l : List (List ℕ)). parts ++ l) (split_at modules name modules_slash))
    ∙ ap (λ (r : Bool). r && not (ends_in_modules (parts ++ (modules ∷ names)))) (below_modules parts names
    ∙ ap (λ (r : Bool). r && list_all is_step names) is)
    ∙ ap (λ (e : Bool). list_all is_step names && not e) (ends_append parts (modules ∷ names) (omega arith)
    ∙ ends_later modules names (some_parts name))

some : (n : ℕ) → 0 < n → (n == 0) ≡ false
some n more = ne_eqb n 0 (λ is. omega (arith, is, more))

pub place_length : (folder name : List ℕ) → length (place_in folder name) ≡ before_name (length folder) + length name
place_length [] name = length-append (codes "node_modules/") name
place_length (b ∷ folder) name =
    let none : (length (b ∷ folder) == 0) ≡ false = some (length (b ∷ folder)) (omega arith) in
    let before : before_name (length (b ∷ folder)) ≡ length (b ∷ folder) + 14 =
    ap (λ (r : Bool). if r then 13 else length (b ∷ folder) + 14) none in
    let inner : length (codes "/" ++ (codes "node_modules/" ++ name)) ≡ 14 + length name =
    length-append (codes "/node_modules/") name in
    let whole : length (place_in (b ∷ folder) name)
    ≡ length (b ∷ folder) + length (codes "/" ++ (codes "node_modules/" ++ name)) =
    length-append (b ∷ folder) (codes "/" ++ (codes "node_modules/" ++ name)) in
    omega (arith, none, before, inner, whole)

-- a folder that is not empty
some_folder : (folder : List ℕ) → 0 < length folder
    → is_folder folder ≡ (nat_le (length folder) 4096 && leads_to_package folder)
some_folder folder more =
    ap (λ (r : Bool). r || (nat_le (length folder) 4096 && leads_to_package folder)) (some (length folder) more)

both_parts : (b : ℕ) (folder : List ℕ) → is_folder (b ∷ folder) ≡ true
    → (nat_le (length (b ∷ folder)) 4096 ≡ true) × (is_straight (b ∷ folder) ≡ true)
both_parts b folder is =
    let both = and_parts (nat_le (length (b ∷ folder)) 4096) (leads_to_package (b ∷ folder))
    (sym (some_folder (b ∷ folder) (omega arith)) ∙ is) in
    (both.0, (and_parts (is_straight (b ∷ folder)) (not (ends_in_modules (parts_of (b ∷ folder)))) both.1).0)

-- a package is in a folder as npm writes it if its name has steps alone, and the folder is not too long
pub place_folder : (folder name : List ℕ) → is_folder folder ≡ true → is_folder (place_in folder name)
    ≡ (nat_le (length (place_in folder name)) 4096 && are_steps false (parts_of name))
place_folder folder name is =
    some_folder (place_in folder name) (longer folder)
    ∙ ap (λ (r : Bool). nat_le (length (place_in folder name)) 4096 && r) (by_folder folder is) where
      longer : (folder : List ℕ) → 0 < length (place_in folder name)
      longer [] = omega (arith, place_length [] name)
      longer (b ∷ folder) =
          let whole : length (place_in (b ∷ folder) name)
          ≡ length (b ∷ folder) + length (codes "/" ++ (codes "node_modules/" ++ name)) =
          length-append (b ∷ folder) (codes "/" ++ (codes "node_modules/" ++ name)) in
          omega (arith, whole)

      by_folder : (folder : List ℕ) → is_folder folder ≡ true
          → leads_to_package (place_in folder name) ≡ are_steps false (parts_of name)
      by_folder [] is = place_root name
      by_folder (b ∷ folder) is = place_below b folder name (both_parts b folder is).1

-- a folder is not too long
pub short : (folder : List ℕ) → is_folder folder ≡ true → length folder ≤ 4096
short [] is = omega arith
short (b ∷ folder) is = leb-true (length (b ∷ folder)) 4096 (both_parts b folder is).0

pub place_is : (folder name : List ℕ) (size found : ℕ) (r : Bool) → is_folder folder ≡ true → length folder ≡ size
    → found ≡ before_name size + length name → r ≡ (nat_le found 4096 && are_steps false (parts_of name))
    → (is_folder (place_in folder name) ≡ r) × (found ≡ length (place_in folder name))
place_is folder name size found r is sized is_found is_r =
    let same : found ≡ length (place_in folder name) =
    is_found ∙ ap (λ (n : ℕ). before_name n + length name) (sym sized) ∙ sym (place_length folder name) in
    (place_folder folder name is ∙ ap (λ (n : ℕ). nat_le n 4096 && are_steps false (parts_of name)) (sym same) ∙ sym is_r, same)

-- The parts of a path.
use Rattle.std.proofs.Common.{◌≡◌, ◌∙◌, ◌==◌, ◌∷◌, ◌++◌, ℕ, List, [], Bool, false, ap, eqb-true}
use Rattle.std.proofs.Common.{inl, inr, refl, sym}
use Rattle.std.proofs.lemmas.Bool.{cases_Bool, or_from, or_parts}
use Rattle.std.proofs.lemmas.List.Splits.{join_with_byte-slice_split, slice_split-cons_no, slice_split-cons_yes}
use Rattle.std.specs.List.{join_with_byte, list_any, onto_first}
use Rattle.npm_lock.specs.PatternGrammar.{parts_of}

abbrev pub is_slash : ℕ → Bool
is_slash b = b == 47

-- ---- a path part by part

-- one part, or a part and a path after it
pub data Path : (path : List ℕ) → Type 0 where
  alone : {path : List ℕ} → list_any is_slash path ≡ false → Path path
  before : {path : List ℕ} (part rest : List ℕ) → path ≡ part ++ (47 ∷ rest) → list_any is_slash part ≡ false → Path rest
      → Path path

longer : (b : ℕ) (path : List ℕ) → (b == 47) ≡ false → Path path → Path (b ∷ path)
longer b path is_not (alone none) = alone (or_from (b == 47) (list_any is_slash path) is_not none)
longer b path is_not (before part rest whole none others) =
    before (b ∷ part) rest (ap (λ (l : List ℕ). b ∷ l) whole) (or_from (b == 47) (list_any is_slash part) is_not none)
    others

more : (b : ℕ) (path : List ℕ) → Path path → Path (b ∷ path)
more b path p = elim (cases_Bool (b == 47)) [
  | inl is ↦ before [] path (ap (λ (c : ℕ). c ∷ path) (eqb-true b 47 is)) refl p
  | inr is_not ↦ longer b path is_not p
]

pub path-of : (path : List ℕ) → Path path
path-of [] = alone refl
path-of (b ∷ path) = more b path (path-of path)

-- ---- its parts

pub parts-alone : (part : List ℕ) → list_any is_slash part ≡ false → parts_of part ≡ part ∷ []
parts-alone [] none = refl
parts-alone (b ∷ part) none =
    let parts = or_parts (b == 47) (list_any is_slash part) none in
    slice_split-cons_no is_slash b part parts.0 ∙ ap (onto_first b) (parts-alone part parts.1)

pub parts-before : (part rest : List ℕ) → list_any is_slash part ≡ false → parts_of (part ++ (47 ∷ rest)) ≡ part ∷ parts_of rest
parts-before [] rest none = slice_split-cons_yes is_slash 47 rest refl
parts-before (b ∷ part) rest none =
    let parts = or_parts (b == 47) (list_any is_slash part) none in
    slice_split-cons_no is_slash b (part ++ (47 ∷ rest)) parts.0 ∙ ap (onto_first b) (parts-before part rest parts.1)

-- there is a first part
pub record HasFirst (parts : List (List ℕ)) : Type 0 where
  pub first : List ℕ
  pub others : List (List ℕ)
  pub whole : parts ≡ first ∷ others

pub first-part : (path : List ℕ) → Path path → HasFirst (parts_of path)
first-part path (alone none) = record { first = path; others = []; whole = parts-alone path none }
first-part path (before part rest whole none p) =
    record { first = part; others = parts_of rest; whole = ap parts_of whole ∙ parts-before part rest none }

-- paths of the same parts are the same
pub same-path : (one other : List ℕ) → parts_of one ≡ parts_of other → one ≡ other
same-path one other is =
    sym (join_with_byte-slice_split 47 one) ∙ ap (join_with_byte 47) is ∙ join_with_byte-slice_split 47 other

-- a path of one part is this part
pub one-part : (path part : List ℕ) → parts_of path ≡ part ∷ [] → path ≡ part
one-part path part is = sym (join_with_byte-slice_split 47 path) ∙ ap (join_with_byte 47) is

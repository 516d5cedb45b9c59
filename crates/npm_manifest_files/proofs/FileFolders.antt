-- What comes before the last `/` of a path, and what comes after it.
use Rattle.std.proofs.Common.{◌≡◌, ◌≢◌, ◌∙◌, ◌+◌, ◌<◌, ◌≤◌, ◌++◌, ◌∷◌, [], ℕ, List, ap, arith, codes}
use Rattle.std.proofs.Common.{drop, length, refl, suc, sym, take, zero}
use Rattle.std.proofs.lemmas.List.{take-append-drop}
use Rattle.std.specs.Str.Pattern.{LacksTextAt, RFindsText, SplitsAroundMatch}

-- a name, and no path
abbrev pub HasNoSlash : (name : List ℕ) → Type 0
HasNoSlash name = (front back : List ℕ) → name ≢ front ++ (codes "/" ++ back)

after_front : (front rest : List ℕ) → drop (length front) (front ++ rest) ≡ rest
after_front [] rest = refl
after_front (x ∷ front) rest = after_front front rest

no_rest : (front rest : List ℕ) → [] ≡ front ++ rest → [] ≡ rest
no_rest [] rest is = is
no_rest (x ∷ front) rest is = cc is

nothing : (n : ℕ) → drop {A = ℕ} n [] ≡ []
nothing zero = refl
nothing (suc n) = refl

-- a part of the rest
after : (path front rest : List ℕ) (i : ℕ) → drop i path ≡ front ++ rest → drop (i + length front) path ≡ rest
after path front rest zero is =
    let same : 0 + length front ≡ length front = omega arith in
    ap (λ n. drop n path) same ∙ (rw is (after_front front rest))
after [] front rest (suc i) is = nothing (suc i + length front) ∙ no_rest front rest is
after (x ∷ path) front rest (suc i) is =
    let same : suc i + length front ≡ suc (i + length front) = omega arith in
    ap (λ n. drop n (x ∷ path)) same ∙ after path front rest i is

within : (path rest : List ℕ) (x i : ℕ) → drop i path ≡ x ∷ rest → i < length path
within [] rest x zero is = cc is
within [] rest x (suc i) is = cc is
within (y ∷ path) rest x zero is = omega arith
within (y ∷ path) rest x (suc i) is = omega (arith, within path rest x i is)

-- no `/` comes at this place or later
pub no_slash : (path name : List ℕ) (i : ℕ) → drop i path ≡ name
    → ((k : ℕ) → i ≤ k → k ≤ length path → LacksTextAt (codes "/") path k) → HasNoSlash name
no_slash path name i is lacks front back slash =
    let at : drop (i + length front) path ≡ codes "/" ++ back = after path front (codes "/" ++ back) i (is ∙ slash) in
    let small : i + length front < length path = within path back 47 (i + length front) at in
    lacks (i + length front) (omega arith) (omega arith) back at

-- the path is cut at its last `/`
pub cut_at : (path front back : List ℕ) → SplitsAroundMatch (RFindsText (codes "/")) path front back
    → (path ≡ front ++ (codes "/" ++ back)) × HasNoSlash back
cut_at path front back split =
    let at : drop split.0 path ≡ codes "/" ++ back = rw split.4 split.2.1.split in
    let ends : split.1 ≡ split.0 + 1 = split.2.1.ends in
    let whole : path ≡ front ++ (codes "/" ++ back) =
    sym (take-append-drop split.0 path) ∙ ap (λ rest. take split.0 path ++ rest) at
    ∙ ap (λ first. first ++ (codes "/" ++ back)) (sym split.3) in (
      whole,
      no_slash path back split.1 (sym split.4) (λ k more small. split.2.0 k (omega arith) small),
    )

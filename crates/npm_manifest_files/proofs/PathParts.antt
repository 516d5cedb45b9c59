-- The last part of a path, and what comes before it.
use Rattle.std.proofs.Common.{◌≡◌, ◌==◌, ◌||◌, ◌++◌, ℕ, List, [], ◌∷◌, Bool, true, false, ap, codes, eqb→eq, refl, sym}
use Rattle.std.specs.Str.Pattern.{RFindsText, SplitsAroundMatch}
use Rattle.npm_manifest_files.specs.Paths.{above_part, folder_of, has_slash, last_part}
use Rattle.npm_manifest_files.proofs.FileFolders.{HasNoSlash, cut_at}

-- ---- a path with a slash

or_true : (a : Bool) → (a || true) ≡ true
or_true true = refl
or_true false = refl

slashed : (front back : List ℕ) → has_slash (front ++ (47 ∷ back)) ≡ true
slashed [] back = refl
slashed (b ∷ front) back = rw (slashed front back) (or_true (b == 47))

last : (front back : List ℕ) → has_slash back ≡ false → last_part (front ++ (47 ∷ back)) ≡ back
last [] back none = rw none refl
last (b ∷ front) back none = rw (slashed front back) (last front back none)

above : (front back : List ℕ) → has_slash back ≡ false → above_part (front ++ (47 ∷ back)) ≡ front
above [] back none = rw none refl
above (b ∷ front) back none = rw (slashed front back) (ap (λ rest. b ∷ rest) (above front back none))

folder : (front back : List ℕ) → has_slash back ≡ false → folder_of (front ++ (47 ∷ back)) ≡ front
folder front back none = rw (slashed front back) (above front back none)

-- ---- a path without one

first : (b : ℕ) (path : List ℕ) (is : Bool) → is ≡ (b == 47) → HasNoSlash (b ∷ path) → is ≡ false
first b path false same has = refl
first b path true same has =
    let slash : b ≡ 47 = eqb→eq b 47 (rw (← same) tt) in
    absurd (has [] path (ap (λ x. x ∷ path) slash))

later : (b : ℕ) (path : List ℕ) → HasNoSlash (b ∷ path) → HasNoSlash path
later b path has = λ front back is. has (b ∷ front) back (ap (λ rest. b ∷ rest) is)

none_in : (path : List ℕ) → HasNoSlash path → has_slash path ≡ false
none_in [] has = refl
none_in (b ∷ path) has = rw (first b path (b == 47) refl has, none_in path (later b path has)) refl

pub whole_last : (path : List ℕ) → HasNoSlash path → path ≡ last_part path
whole_last [] has = refl
whole_last (b ∷ path) has = rw (none_in path (later b path has), first b path (b == 47) refl has) refl

pub nothing_above : (path : List ℕ) → HasNoSlash path → [] ≡ above_part path
nothing_above [] has = refl
nothing_above (b ∷ path) has = rw (none_in path (later b path has)) refl

pub no_folder : (path : List ℕ) → HasNoSlash path → codes "." ≡ folder_of path
no_folder path has = rw (none_in path has) refl

-- ---- a path that is cut

module _ (path front back : List ℕ) (split : SplitsAroundMatch (RFindsText (codes "/")) path front back) where
  pub is_last : back ≡ last_part path
  is_last =
      let cut = cut_at path front back split in
      rw cut.0 (sym (last front back (none_in back cut.1)))

  pub is_above : front ≡ above_part path
  is_above =
      let cut = cut_at path front back split in
      rw cut.0 (sym (above front back (none_in back cut.1)))

  pub is_folder : front ≡ folder_of path
  is_folder =
      let cut = cut_at path front back split in
      rw cut.0 (sym (folder front back (none_in back cut.1)))

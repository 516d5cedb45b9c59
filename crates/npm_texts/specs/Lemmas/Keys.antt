-- Names that are equal or not, and the names of an object in their order.
use Rattle.std.proofs.Common.{◌≡◌, ◌∙◌, ℕ, List, [], ◌∷◌, Bool, true, false, String, Global, string_bytes, string_cmp}
use Rattle.std.proofs.Common.{nat_cmp, Less, bytes_eq, is_eq, refl, sym}
use Rattle.std.proofs.lemmas.Map.Text.{is_eq-slice_cmp}
use Rattle.std.proofs.lemmas.Slice.Eq.{bytes_eq-Decides}
use Rattle.std.specs.Cmp.Lexicographic.{slice_cmp}
use Rattle.std.specs.List.{AllByRecursion}
use Rattle.std.specs.List.Sorted.{IsStrictlySortedBy}
use Rattle.std.specs.Map.{keys_of as tree_keys}
use Rattle.serde_json.specs.View.{members_view}
use Rattle.serde_json.specs.declared.value.Value.{Value}
use Rattle.npm_texts.specs.ObjectKeys.{keys_of}

pub exact : (x y : List ℕ) → is_eq (slice_cmp nat_cmp x y) ≡ true → x ≡ y
exact x y equal = (bytes_eq-Decides x y).0 (sym (is_eq-slice_cmp x y) ∙ equal)

pub other : (x y : List ℕ) → is_eq (slice_cmp nat_cmp x y) ≡ false → bytes_eq y x ≡ false
other x y differ = apart (bytes_eq y x) refl where
  apart : (b : Bool) → bytes_eq y x ≡ b → b ≡ false
  apart true same =
      let is : y ≡ x = (bytes_eq-Decides y x).0 same in
      let equal : bytes_eq x y ≡ true = (bytes_eq-Decides x y).1 (sym is) in
      cc (is_eq-slice_cmp x y, equal, differ)
  apart false same = refl

pub itself : (x : List ℕ) → is_eq (slice_cmp nat_cmp x x) ≡ true
itself x = is_eq-slice_cmp x x ∙ (bytes_eq-Decides x x).1 refl

-- ---- the keys of an object

below_keys : (key : String Global) (entries : List (String Global × Value))
    → AllByRecursion (λ y. string_cmp key y ≡ Less) (tree_keys entries)
    → AllByRecursion (λ y. slice_cmp nat_cmp (string_bytes key) y ≡ Less) (keys_of (members_view entries))
below_keys key [] below = tt
below_keys key (e ∷ entries) below = (below.0, below_keys key entries below.1)

pub sorted_keys : (entries : List (String Global × Value)) → IsStrictlySortedBy string_cmp (tree_keys entries)
    → IsStrictlySortedBy (slice_cmp nat_cmp) (keys_of (members_view entries))
unfolding IsStrictlySortedBy
sorted_keys [] sorted = tt
sorted_keys (e ∷ entries) sorted = (below_keys e.0 entries sorted.0, sorted_keys entries sorted.1)

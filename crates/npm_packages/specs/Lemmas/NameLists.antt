-- The names that a package depends on are the keys of the map of its dependencies.
use Rattle.std.proofs.Common.{◌≡◌, ◌∙◌, ℕ, zero, suc, List, [], ◌∷◌, Bool, true, false, cond, Option, Some, BTreeMap}
use Rattle.std.proofs.Common.{nat_cmp, Less, Ordering, ap, arith, is_eq, map, option_map, refl, sym}
use denote.Ref.{Bor}
use Rattle.std.specs.BTreeMap.{is_at}
use Rattle.std.specs.Cmp.Lexicographic.{slice_cmp}
use Rattle.std.specs.List.{AllByRecursion, Contains}
use Rattle.std.specs.List.Sorted.{IsStrictlySortedBy}
use Rattle.std.specs.Map.{keys_of as tree_keys, lookup}
use Rattle.std.specs.Option.{IsSome}
use Rattle.serde_json.specs.Data.{Data}
use Rattle.npm_texts.specs.Lemmas.Keys.{exact, itself}
use Rattle.npm_packages.specs.Asked.{AreNames, asked_of}
use Rattle.npm_packages.specs.PackageValue.{asked_value}
use Rattle.npm_packages.specs.Names.{at_name}
use Rattle.npm_packages.specs.declared.asked.Asked.{Asked}

-- ---- the entries of the map

-- the names of entries of the map
abbrev pub names_of : List (Bor (List ℕ) × Asked) → List (List ℕ)
names_of entries = map (λ e. e.0.now) entries

-- each entry is the dependency of the package on its name
abbrev pub AreAsked : (asker : Data) → (is_installed : Bool) → List (Bor (List ℕ) × Asked) → Type 0
AreAsked asker is_installed entries =
    AllByRecursion (λ e. asked_of asker is_installed e.0.now ≡ Some (asked_value e.1)) entries

-- ---- texts

-- what is above a text is not that text
above : (x y : List ℕ) → slice_cmp nat_cmp x y ≡ Less → is_eq (slice_cmp nat_cmp y x) ≡ false
above x y less = apart (is_eq (slice_cmp nat_cmp y x)) refl where
  apart : (b : Bool) → is_eq (slice_cmp nat_cmp y x) ≡ b → b ≡ false
  apart true same =
      let is : y ≡ x = exact y x same in
      let never : is_eq (slice_cmp nat_cmp x y) ≡ false = ap is_eq less in
      let equal : is_eq (slice_cmp nat_cmp x y) ≡ true = rw is (itself x) in
      cc (never, equal)
  apart false same = refl

-- ---- the keys of the map

abbrev Entries : Type 0
Entries = List (Bor (List ℕ) × Asked)

abbrev key_cmp : Bor (List ℕ) → Bor (List ℕ) → Ordering
key_cmp x y = slice_cmp nat_cmp x.now y.now

-- what the entries have at a name
abbrev at : (name : List ℕ) → Entries → Option Asked
at name entries = lookup (is_at (λ k. slice_cmp nat_cmp name k.now)) entries

below_names : (key : Bor (List ℕ)) (entries : Entries) → AllByRecursion (λ y. key_cmp key y ≡ Less) (tree_keys entries)
    → AllByRecursion (λ y. slice_cmp nat_cmp key.now y ≡ Less) (names_of entries)
below_names key [] below = tt
below_names key (e ∷ entries) below = (below.0, below_names key entries below.1)

sorted_names : (entries : Entries) → IsStrictlySortedBy key_cmp (tree_keys entries)
    → IsStrictlySortedBy (slice_cmp nat_cmp) (names_of entries)
unfolding IsStrictlySortedBy
sorted_names [] sorted = tt
sorted_names (e ∷ entries) sorted = (below_names e.0 entries sorted.0, sorted_names entries sorted.1)

-- each entry of a sorted map is found by its key
later_found : (first : Bor (List ℕ) × Asked) (some all : Entries)
    → AllByRecursion (λ y. key_cmp first.0 y ≡ Less) (tree_keys some)
    → AllByRecursion (λ e. at e.0.now all ≡ Some e.1) some
    → AllByRecursion (λ e. at e.0.now (first ∷ all) ≡ Some e.1) some
later_found first [] all below found = tt
later_found first (e ∷ some) all below found =
    (rw (above first.0.now e.0.now below.0) found.0, later_found first some all below.1 found.1)

each_found : (entries : Entries) → IsStrictlySortedBy key_cmp (tree_keys entries)
    → AllByRecursion (λ e. at e.0.now entries ≡ Some e.1) entries
unfolding IsStrictlySortedBy
each_found [] sorted = tt
each_found (e ∷ entries) sorted =
    (rw (itself e.0.now) refl, later_found e entries entries sorted.0 (each_found entries sorted.1))

module _ (asker : Data) (is_installed : Bool) where
  some_asked : (all : BTreeMap (Bor (List ℕ)) Asked) (some : Entries)
      → ((name : List ℕ) → at_name all name ≡ asked_of asker is_installed name)
      → AllByRecursion (λ e. at e.0.now all.entries ≡ Some e.1) some → AreAsked asker is_installed some
  some_asked all [] asks found = tt
  some_asked all (e ∷ some) asks found =
      (sym (asks e.0.now) ∙ ap (option_map asked_value) found.0, some_asked all some asks found.1)

  pub all_asked : (all : BTreeMap (Bor (List ℕ)) Asked) → IsStrictlySortedBy key_cmp (tree_keys all.entries)
      → ((name : List ℕ) → at_name all name ≡ asked_of asker is_installed name)
      → AreAsked asker is_installed all.entries
  all_asked all sorted asks = some_asked all all.entries asks (each_found all.entries sorted)

  among_names : (entries : Entries) (name : List ℕ) → AreAsked asker is_installed entries
      → Contains (names_of entries) name → IsSome (asked_of asker is_installed name)
  among_names [] name asked (k, small, is) = absurd (omega (arith, small))
  among_names (e ∷ entries) name asked (zero, small, is) = rw (← is, asked.0) refl
  among_names (e ∷ entries) name asked (suc k, small, is) =
      among_names entries name asked.1 (k, omega (arith, small), is)

  has_name : (e : Bor (List ℕ) × Asked) (entries : Entries) (name : List ℕ) (b : Bool)
      → is_eq (slice_cmp nat_cmp name e.0.now) ≡ b
      → (IsSome (option_map asked_value (at name entries)) → Contains (names_of entries) name)
      → IsSome (option_map asked_value (cond b (Some e.1) (at name entries)))
      → Contains (names_of (e ∷ entries)) name
  has_name e entries name true is later some = (0, omega arith, sym (exact name e.0.now is))
  has_name e entries name false is later some =
      let more = later some in (suc more.0, omega (arith, more.1), more.2)

  names_at : (entries : Entries) (name : List ℕ) → IsSome (option_map asked_value (at name entries))
      → Contains (names_of entries) name
  names_at [] name some = cc some
  names_at (e ∷ entries) name some = has_name e entries name _ refl (names_at entries name) some

  pub are_names : (all : BTreeMap (Bor (List ℕ)) Asked) → IsStrictlySortedBy key_cmp (tree_keys all.entries)
      → ((name : List ℕ) → at_name all name ≡ asked_of asker is_installed name)
      → AreNames asker is_installed (names_of all.entries)
  are_names all sorted asks = record {
    ascending = sorted_names all.entries sorted;
    all = λ name. (
      among_names all.entries name (all_asked all sorted asks),
      (λ some. let at_all : IsSome (at_name all name) = rw (asks name) some in names_at all.entries name at_all),
    );
  }

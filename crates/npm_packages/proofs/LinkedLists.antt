-- The folders of links: one more member, and the keys of the map.
use Rattle.std.proofs.Common.{◌≡◌, ◌⊎◌, ◌↔◌, ℕ, zero, suc, List, [], ◌∷◌, Bool, true, false, cond, Option, Some}
use Rattle.std.proofs.Common.{BTreeMap, Less, Equal, Greater, None, Ordering, ap, arith, inl, inr, is_eq, map}
use Rattle.std.proofs.Common.{codes, nat_cmp, option_and_then, refl, sym}
use denote.Ref.{Bor}
use Rattle.std.specs.BTreeMap.{is_at}
use Rattle.std.specs.Cmp.Lexicographic.{slice_cmp}
use Rattle.std.specs.List.{AllByRecursion, Contains}
use Rattle.std.specs.List.Sorted.{IsStrictlySortedBy}
use Rattle.std.specs.Map.{keys_of, lookup}
use Rattle.std.specs.Option.{IsSome}
use Rattle.serde_json.specs.Data.{Data, Members, member, object}
use Rattle.serde_json.specs.Find.{as_object, get, get_member}
use Rattle.npm_packages.specs.LinkedFolders.{AreLinkedFolders, IsLinkTo, IsLinked}
use Rattle.npm_packages.specs.Lemmas.FolderMaps.{HasFolder}
use Rattle.npm_packages.specs.Private.Linked.{AreKeys, IsLinkedAmong}
use Rattle.npm_texts.specs.Lemmas.Objects.{in_no_group, is_object_of}
use Rattle.npm_texts.specs.Lemmas.Keys.{exact, itself}

-- ---- one more member

module _ (packages : Data) (folder key : List ℕ) (value : Data) (rest : Members) where
  first_or_later : (place : List ℕ) (link : Data) (o : Ordering) → slice_cmp nat_cmp place key ≡ o
      → get_member place (member key value rest) ≡ Some link → IsLinkTo packages link folder
      → IsLinkTo packages value folder ⊎ IsLinkedAmong packages rest folder
  first_or_later place link Less is there leads = inr (place, link, rw is at there, leads)
  first_or_later place link Equal is there leads =
      let same : value ≡ link = cc (rw is at there) in inl (rw same leads)
  first_or_later place link Greater is there leads = inr (place, link, rw is at there, leads)

  here : (o : Ordering) → slice_cmp nat_cmp key key ≡ o → is_eq o ≡ true
      → get_member key (member key value rest) ≡ Some value
  here Less is equal = cc equal
  here Equal is equal = rw is refl
  here Greater is equal = cc equal

  later : (place : List ℕ) (link : Data) (o : Ordering) → slice_cmp nat_cmp place key ≡ o → get_member key rest ≡ None
      → get_member place rest ≡ Some link → get_member place (member key value rest) ≡ Some link
  later place link Less is none there = rw is there
  later place link Equal is none there =
      let same : place ≡ key = exact place key (ap is_eq is) in
      let gone : get_member place rest ≡ None = rw same none in
      cc (gone, there)
  later place link Greater is none there = rw is there

  pub one_member : get_member key rest ≡ None → IsLinkedAmong packages (member key value rest) folder
      ↔ (IsLinkTo packages value folder ⊎ IsLinkedAmong packages rest folder)
  one_member none = (
    (λ linked. first_or_later linked.0 linked.1 (slice_cmp nat_cmp linked.0 key) refl linked.2 linked.3),
    (λ either. elim either [
      | inl leads ↦ (key, value, here (slice_cmp nat_cmp key key) refl (itself key), leads)
      | inr linked ↦ (
        linked.0,
        linked.1,
        later linked.0 linked.1 (slice_cmp nat_cmp linked.0 key) refl none linked.2,
        linked.3,
      )
    ]),
  )

-- a member that leads to no folder
pub passed_by : {All Has Left Leads Rest : Type 0} → All ↔ (Has ⊎ Left) → Left ↔ (Leads ⊎ Rest) → ¬ Leads
    → All ↔ (Has ⊎ Rest)
passed_by all left never = (
  (λ a. elim (all.0 a) [
    | inl has ↦ inl has
    | inr among ↦ elim (left.0 among) [
      | inl leads ↦ absurd (never leads)
      | inr rest ↦ inr rest
    ]
  ]),
  (λ either. elim either [
    | inl has ↦ all.1 (inl has)
    | inr rest ↦ all.1 (inr (left.1 (inr rest)))
  ]),
)

-- ---- the keys of the map

abbrev key_cmp : Bor (List ℕ) → Bor (List ℕ) → Ordering
key_cmp x y = slice_cmp nat_cmp x.now y.now

module _ {X : Type 0} where
  abbrev pub names_of : List (Bor (List ℕ) × X) → List (List ℕ)
  names_of entries = map (λ e. e.0.now) entries

  abbrev found : (name : List ℕ) → List (Bor (List ℕ) × X) → Type 0
  found name entries = IsSome (lookup (is_at (λ k. slice_cmp nat_cmp name k.now)) entries)

  below_names : (key : Bor (List ℕ)) (entries : List (Bor (List ℕ) × X))
      → AllByRecursion (λ y. key_cmp key y ≡ Less) (keys_of entries)
      → AllByRecursion (λ y. slice_cmp nat_cmp key.now y ≡ Less) (names_of entries)
  below_names key [] below = tt
  below_names key (e ∷ entries) below = (below.0, below_names key entries below.1)

  sorted_names : (entries : List (Bor (List ℕ) × X)) → IsStrictlySortedBy key_cmp (keys_of entries)
      → IsStrictlySortedBy (slice_cmp nat_cmp) (names_of entries)
  unfolding IsStrictlySortedBy
  sorted_names [] sorted = tt
  sorted_names (e ∷ entries) sorted = (below_names e.0 entries sorted.0, sorted_names entries sorted.1)

  after : (e : Bor (List ℕ) × X) (entries : List (Bor (List ℕ) × X)) (name : List ℕ) (b : Bool)
      → is_eq (slice_cmp nat_cmp name e.0.now) ≡ b → found name entries → found name (e ∷ entries)
  after e entries name true is there = rw is refl
  after e entries name false is there = rw is there

  among : (entries : List (Bor (List ℕ) × X)) (name : List ℕ) → Contains (names_of entries) name → found name entries
  among [] name (k, small, is) = absurd (omega (arith, small))
  among (e ∷ entries) name (zero, small, is) = rw (← is, itself e.0.now) refl
  among (e ∷ entries) name (suc k, small, is) =
      after e entries name _ refl (among entries name (k, omega (arith, small), is))

  at_first : (e : Bor (List ℕ) × X) (entries : List (Bor (List ℕ) × X)) (name : List ℕ) (b : Bool)
      → is_eq (slice_cmp nat_cmp name e.0.now) ≡ b
      → (found name entries → Contains (names_of entries) name)
      → IsSome (cond b (Some e.1) (lookup (is_at (λ k. slice_cmp nat_cmp name k.now)) entries))
      → Contains (names_of (e ∷ entries)) name
  at_first e entries name true is more some = (0, omega arith, sym (exact name e.0.now is))
  at_first e entries name false is more some =
      let there = more some in (suc there.0, omega (arith, there.1), there.2)

  there : (entries : List (Bor (List ℕ) × X)) (name : List ℕ) → found name entries → Contains (names_of entries) name
  there [] name some = cc some
  there (e ∷ entries) name some = at_first e entries name _ refl (there entries name) some

  pub are_keys : (folders : BTreeMap (Bor (List ℕ)) X) → IsStrictlySortedBy key_cmp (keys_of folders.entries)
      → AreKeys folders (names_of folders.entries)
  are_keys folders sorted = record {
    ascending = sorted_names folders.entries sorted;
    all = λ folder. (among folders.entries folder, there folders.entries folder);
  }

-- ---- the members of `packages`

pub none_linked : (lock : Data) → option_and_then as_object (get (codes "packages") lock) ≡ None
    → AreLinkedFolders lock []
unfolding IsStrictlySortedBy
none_linked lock none = record {
  ascending = tt;
  all = λ folder. (
    (λ contained. absurd (omega (arith, contained.1))),
    (λ linked.
        let gone = in_no_group (get (codes "packages") lock) linked.linked.place none in
        let never : get linked.linked.place linked.packages ≡ None = rw linked.there at gone in
        cc (never, linked.linked.there)),
  );
}

module _ {X : Type 0} (lock : Data) (members : Members) (folders : BTreeMap (Bor (List ℕ)) X) (list : List (List ℕ))
    (is : option_and_then as_object (get (codes "packages") lock) ≡ Some members) where
  packages_are : (packages : Data) → get (codes "packages") lock ≡ Some packages → packages ≡ object members
  packages_are packages there =
      let made : as_object packages ≡ Some members = rw there at is in is_object_of packages members made

  there_are : (packages : Option Data) → option_and_then as_object packages ≡ Some members
      → packages ≡ Some (object members)
  there_are None made = cc made
  there_are (Some packages) made = ap Some (is_object_of packages members made)

  pub all_linked : ((folder : List ℕ) → HasFolder folders folder ↔ IsLinked (object members) folder)
      → AreKeys folders list → AreLinkedFolders lock list
  all_linked same keys = record {
    ascending = keys.ascending;
    all = λ folder. (
      (λ contained. record {
        packages = object members;
        there = there_are (get (codes "packages") lock) is;
        linked = (same folder).0 ((keys.all folder).0 contained);
      }),
      (λ linked. (keys.all folder).1 ((same folder).1
          (rw (packages_are linked.packages linked.there) at linked.linked))),
    );
  }

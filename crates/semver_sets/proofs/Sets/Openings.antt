-- The stored list of which sets open which triples, and what follows for a prerelease.
use Rattle.std.proofs.Common.{if◌then◌else◌, ◌≡◌, ◌↔◌, ℕ, ◌+◌, ◌*◌, ◌^◌, ◌<◌, ◌≤◌, ◌||◌, Bool, true}
use Rattle.std.proofs.Common.{false, List, [], ◌∷◌, ◌++◌, get_or, length, map, take, Option, Some, None}
use Rattle.std.proofs.Common.{arith, sym, subst, ◌∙◌, refl, inl, inr}
use Rattle.std.specs.Prelude.{cond, filter}
use Rattle.std.specs.List.{AllByRecursion}
use Rattle.std.proofs.lemmas.List.{append_assoc, get_or_at, get_or_default, length-append, length-map, map-append}
use Rattle.std.proofs.lemmas.List.Elements.{filter-append}
use Rattle.std.proofs.lemmas.List.Recursion.{is_count_by}
use Rattle.semver_cuts.specs.declared.cut.Cut.{Cut}
use Rattle.semver_cuts.specs.declared.cut.Cut.TheVariants.{Start, Before, End}
use Rattle.semver_cuts.specs.Ends.{Ends, span_between}
use Rattle.semver_cuts.specs.Places.{span_at}
use Rattle.semver_cuts.specs.Sharing.{AnyByRecursion}
use Rattle.semver_cuts.specs.Lemmas.Lists.{any-at, none-more}
use Rattle.semver_cuts.specs.SpanLists.{IsInSome}
use Rattle.semver_cuts.specs.Starts.{count_of_starts}
use Rattle.semver_cuts.specs.Lemmas.Ends.{cut_cmp-refl}
use Rattle.semver_texts.specs.Comparison.{version_cmp}
use Rattle.semver_sets.specs.Lemmas.Deciding.{open_end-iff}
use Rattle.semver_sets.specs.Meaning.{HasOpenEnd, IsInside, RangeAdmits, SetAdmits}
use Rattle.semver_texts.specs.Lemmas.Public.{version_total}
use Rattle.semver_sets.specs.Searching.{IsShortSearch, count_of_opening, has_open_end}
use Rattle.semver_sets.specs.Searching.{opens}
use Rattle.semver_texts.specs.Version.{IsPrerelease, VersionValue}
use Rattle.semver_sets.specs.Private.SearchViews.{is_opening_of, opening_at, openings_from, openings_of, other_than}
use Rattle.semver_sets.specs.Private.SearchViews.{places_opening, same_triples, triple_at}
use Rattle.semver_texts.specs.Triple.{triple_of}
use Rattle.semver_sets.specs.declared.set_list.opened.Opening.{Opening}
use Rattle.semver_texts.specs.declared.triple.Triple.{Triple}
use Rattle.semver_sets.proofs.Sets.SomeElement.{all-at}

-- ---- the openings of one set

-- the triple, if there is one, is that of the version
fits : VersionValue → Option Triple → Bool
fits v None = false
fits v (Some triple) = same_triples triple (triple_of v)

fits-opens : (v : VersionValue) (cut : Cut VersionValue) → fits v (triple_at cut) ≡ opens cut v
unfolding fits
fits-opens v cut = grind arith

-- the places of those of the version's triple
named : VersionValue → List Opening → List ℕ
named v openings = map (λ (o : Opening). o.place) (filter (is_opening_of v) openings)

named-append : (v : VersionValue) (xs ys : List Opening) → named v (xs ++ ys) ≡ named v xs ++ named v ys
unfolding named
named-append v xs ys = grind (arith, filter-append, map-append)

place-if : ℕ → Bool → List ℕ
place-if place true = place ∷ []
place-if place false = []

named-at : (place : ℕ) (v : VersionValue) (o : Option Triple) → named v (opening_at place o) ≡ place-if place (fits v o)
unfolding fits named place-if
named-at place v o = grind arith

joined-two : (place : ℕ) (v : VersionValue) (first second : Option Triple)
    → place-if place (fits v first) ++ place-if place (fits v (other_than first second))
    ≡ place-if place (fits v first || fits v second)
unfolding fits place-if
joined-two place v first second = grind arith

named-set : (place : ℕ) (v : VersionValue) (set : Ends VersionValue)
    → named v (openings_of place set) ≡ place-if place (has_open_end v set)
named-set place v set = grind (arith, named-append, named-at, joined-two, fits-opens)

-- ---- those of all sets

place-then : (place : ℕ) (b : Bool) (later : List ℕ) → place-if place b ++ later ≡ (if b then place ∷ later else later)
unfolding place-if
place-then place b later = grind arith

pub named-all : (v : VersionValue) (place : ℕ) (sets : List (Ends VersionValue))
    → map (λ (o : Opening). o.place) (filter (is_opening_of v) (openings_from place sets)) ≡ places_opening v place sets
unfolding named
named-all v place [] = refl
named-all v place (set ∷ sets) =
    grind (
      arith,
      named-append v (openings_of place set) (openings_from (place + 1) sets),
      named-set place v set,
      place-then place (has_open_end v set) (places_opening v (place + 1) sets),
      named-all v (place + 1) sets,
    )

-- ---- what they say of a version

counted : (v : VersionValue) → List (Ends VersionValue) → ℕ
counted v [] = 0
counted v (set ∷ sets) = cond (has_open_end v set) (1 + counted v sets) (counted v sets)

length-places : (v : VersionValue) (place : ℕ) (sets : List (Ends VersionValue))
    → length (places_opening v place sets) ≡ counted v sets
unfolding counted
length-places v place [] = refl
length-places v place (set ∷ sets) = grind (arith, length-places v (place + 1) sets)

-- there are as many places as sets that open the triple
pub places-count : (v : VersionValue) (place : ℕ) (sets : List (Ends VersionValue))
    → length (places_opening v place sets) ≡ count_of_opening v sets
unfolding counted
places-count v place sets =
    length-places v place sets
    ∙ is_count_by (counted v) (has_open_end v) refl (λ set others. refl) sets

module _ (v : VersionValue) (prerelease : IsPrerelease v) where
  abbrev IsInsideAt : List (Ends VersionValue) → ℕ → Type 0
  IsInsideAt all place = IsInside v (span_at all place)

  abbrev Means : List (Ends VersionValue) → List ℕ → List (Ends VersionValue) → Type 0
  Means all places sets = AllByRecursion (λ place. place < length all) places
      × (AnyByRecursion (IsInsideAt all) places ↔ RangeAdmits sets v)

  meant : (all : List (Ends VersionValue)) (place : ℕ) (set : Ends VersionValue) (sets : List (Ends VersionValue))
      (later : List ℕ)
      (b : Bool) → has_open_end v set ≡ b → place < length all → span_at all place ≡ set → Means all later sets
      → Means all (if b then place ∷ later else later) (set ∷ sets)
  meant all place set sets later b h1 h2 h3 h4 = grind (arith, open_end-iff)

  placed : (front sets : List (Ends VersionValue)) → Means (front ++ sets) (places_opening v (length front) sets) sets
  placed front [] = (tt, (λ is. is, λ is. is))
  placed front (set ∷ sets) =
      let all : List (Ends VersionValue) = front ++ set ∷ sets in
      let later : Means all (places_opening v (length front + 1) sets) sets =
      subst (λ l. Means l (places_opening v (length front + 1) sets) sets) (append_assoc front (set ∷ []) sets)
      (subst (λ n. Means ((front ++ set ∷ []) ++ sets) (places_opening v n sets) sets) (length-append front (set ∷ []))
      (placed (front ++ set ∷ []) sets)) in
      meant all (length front) set sets (places_opening v (length front + 1) sets) (has_open_end v set) refl
      (omega (arith, length-append front (set ∷ sets)))
      (get_or_at front set sets (span_between Start End) (length front) refl) later

  -- the places lie in the list
  pub places-within : (sets : List (Ends VersionValue))
      → AllByRecursion (λ place. place < length sets) (places_opening v 0 sets)
  places-within sets = (placed [] sets).0

  -- and a prerelease lies inside a set at one of them exactly where some set admits it
  pub places-admit : (sets : List (Ends VersionValue))
      → AnyByRecursion (λ place. IsInside v (span_at sets place)) (places_opening v 0 sets) ↔ RangeAdmits sets v
  places-admit sets = (placed [] sets).1

-- ---- places of openings

module _ (P : ℕ → Type 0) where
  pub all-of_places : (openings : List Opening) → AllByRecursion P (map (λ (o : Opening). o.place) openings)
      → AllByRecursion (λ (o : Opening). P o.place) openings
  all-of_places [] all = tt
  all-of_places (o ∷ openings) all = (all.0, all-of_places openings all.1)

  pub any-of_places : (openings : List Opening)
      → AnyByRecursion (λ (o : Opening). P o.place) openings
      ↔ AnyByRecursion P (map (λ (o : Opening). o.place) openings)
  any-of_places [] = (λ is. is, λ is. is)
  any-of_places (o ∷ openings) = grind (arith, any-of_places openings)

-- ---- what the openings of a version's triple say

module _ (v : VersionValue) (prerelease : IsPrerelease v) (sets : List (Ends VersionValue)) (openings : List Opening)
    (places : map (λ (o : Opening). o.place) openings ≡ places_opening v 0 sets) where
  pub found-within : AllByRecursion (λ (o : Opening). o.place < length sets) openings
  found-within =
      all-of_places (λ place. place < length sets) openings
      (subst (AllByRecursion (λ place. place < length sets)) (sym places) (places-within v prerelease sets))

  pub found-admits : AnyByRecursion (λ (o : Opening). IsInside v (span_at sets o.place)) openings ↔ RangeAdmits sets v
  found-admits =
      let P : ℕ → Type 0 = λ place. IsInside v (span_at sets place) in
      let some = any-of_places P openings in
      let admits = places-admit v prerelease sets in (
        λ is. admits.0 (subst (AnyByRecursion P) places (some.0 is)),
        λ is. some.1 (subst (AnyByRecursion P) (sym places) (admits.1 is)),
      )

  pub found-count : length openings ≡ count_of_opening v sets
  found-count = grind (arith, length-map, places-count)

-- ---- an opening at a place of the list

module _ (v : VersionValue) (sets : List (Ends VersionValue)) (openings : List Opening) (k : ℕ) (o : Opening)
    (other set : Ends VersionValue) (within : k < length openings)
    (all : AllByRecursion (λ (o : Opening). o.place < length sets) openings)
    (at : set ≡ get_or sets (get_or openings k o).place other) where
  opening-is : get_or openings k o ≡ get_or openings k (get_or openings k o)
  opening-is = get_or_default openings k o (get_or openings k o) within

  set-is : set ≡ span_at sets (get_or openings k o).place
  set-is = grind (arith, get_or_default, all-at, opening-is)

  pub opening-inside : IsInside v set → AnyByRecursion (λ (o : Opening). IsInside v (span_at sets o.place)) openings
  opening-inside inside = grind (arith, any-at, opening-is, set-is)

  pub opening-outside : ¬ AnyByRecursion (λ (o : Opening). IsInside v (span_at sets o.place)) (take k openings)
      → ¬ IsInside v set → ¬ AnyByRecursion (λ (o : Opening). IsInside v (span_at sets o.place)) (take (k + 1) openings)
  opening-outside none outside = grind (
    arith,
    none-more (λ (o : Opening). IsInside v (span_at sets o.place)) openings k
        (get_or openings k o) within opening-is none (λ inside. outside (subst (IsInside v) (sym set-is) inside)),
  )

-- ---- releases

-- a release is admitted where the cut before it lies in some set
pub release-admits : (v : VersionValue) → ¬ IsPrerelease v → (sets : List (Ends VersionValue))
    → IsInSome version_cmp sets (Before v) ↔ RangeAdmits sets v
release-admits v release [] = (λ is. is, λ is. is)
release-admits v release (set ∷ sets) = grind (arith, release-admits v release sets)

-- ---- one set

pub starts-once : (set : Ends VersionValue) → count_of_starts version_cmp (set ∷ []) ≡ 1
starts-once set = grind (arith, cut_cmp-refl, version_total)

pub some-digit : (digits before after : ℕ) → 1 < 2 ^ digits → after ≤ before + 2 → after ≤ before + digits + 1
some-digit digits before after h1 h2 = grind arith

opened-or_not : (v : VersionValue) (set : Ends VersionValue) (before after : ℕ) (b : Bool) → has_open_end v set ≡ b
    → after ≤ before + 2 → (¬ HasOpenEnd v set → after ≡ before) → after ≤ before + 2 * count_of_opening v (set ∷ [])
opened-or_not v set before after b h1 h2 h3 = grind (arith, open_end-iff)

-- two comparisons, and none of a prerelease whose triple no end opens
pub only-short : (set : Ends VersionValue) (v : VersionValue) (before after : ℕ) → before ≤ after → after ≤ before + 2
    → (IsPrerelease v → ¬ HasOpenEnd v set → after ≡ before) → (SetAdmits set v → before + 2 ≤ after)
    → IsShortSearch (set ∷ []) v before after
only-short set v before after adds short none admitted = record {
  adds = adds;
  release = λ no digits fits.
      some-digit digits before after (subst (λ n. n < 2 ^ digits) (starts-once set) fits) short;
  prerelease = λ pre. opened-or_not v set before after (has_open_end v set) refl short (none pre);
  admitted = λ is. elim is [ inl here ↦ admitted here | inr there ↦ absurd there ];
}

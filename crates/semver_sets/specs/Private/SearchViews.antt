-- Which sets open which triples, as a range stores it, and the result of a search for a version.
use Rattle.std.specs.Prelude.{◌≡◌, ℕ, ◌+◌, ◌==◌, ◌&&◌, Bool, List, [], ◌∷◌, ◌++◌, Option, Some, None, if◌then◌else◌}
use Rattle.std.specs.Prelude.{map, filter}
use Rattle.std.specs.List.Sorted.{IsSortedByKey}
use Rattle.semver_cuts.specs.declared.cut.Cut.{Cut}
use Rattle.semver_cuts.specs.declared.cut.Cut.TheVariants.{Start, Before, After, End}
use Rattle.semver_cuts.specs.Ends.{Ends}
use Rattle.semver_sets.specs.Searching.{has_identifiers, has_open_end}
use Rattle.semver_texts.specs.Version.{VersionValue}
use Rattle.semver_sets.specs.declared.set_list.opened.Opening.{Opening}
use Rattle.semver_texts.specs.Triple.{triple_cmp, triple_of}
use Rattle.semver_texts.specs.declared.triple.Triple.{Triple}

-- ---- triples

abbrev pub same_triples : Triple → Triple → Bool
same_triples t u = (t.major == u.major) && (t.minor == u.minor) && (t.patch == u.patch)

-- the triple of a prerelease
abbrev pub opened_triple : VersionValue → Option Triple
opened_triple v = if has_identifiers v.pre_release then Some (triple_of v) else None

-- the triple that an end opens
abbrev pub triple_at : Cut VersionValue → Option Triple
triple_at Start = None
triple_at (Before v) = opened_triple v
triple_at (After v) = opened_triple v
triple_at End = None

-- ---- openings

abbrev pub opening_at : ℕ → Option Triple → List Opening
opening_at place None = []
opening_at place (Some triple) = record { triple = triple; place = place } ∷ []

-- the second triple, unless it is the first
abbrev pub other_than : Option Triple → Option Triple → Option Triple
other_than None second = second
other_than (Some first) None = None
other_than (Some first) (Some second) = if same_triples first second then None else Some second

-- the triples that the two ends of the set at a place open, each once
abbrev pub openings_of : ℕ → Ends VersionValue → List Opening
openings_of place set =
    opening_at place (triple_at set.lower) ++ opening_at place (other_than (triple_at set.lower) (triple_at set.upper))

abbrev pub openings_from : ℕ → List (Ends VersionValue) → List Opening
openings_from place [] = []
openings_from place (set ∷ sets) = openings_of place set ++ openings_from (place + 1) sets

-- `true` if the opening is one of the version's triple
abbrev pub is_opening_of : VersionValue → Opening → Bool
is_opening_of v opening = same_triples opening.triple (triple_of v)

-- the places of the sets that have an end that opens the version's triple, in order
abbrev pub places_opening : VersionValue → ℕ → List (Ends VersionValue) → List ℕ
places_opening v place [] = []
places_opening v place (set ∷ sets) =
    if has_open_end v set then place ∷ places_opening v (place + 1) sets else places_opening v (place + 1) sets

-- for each triple that an end of a set opens, the places of the sets that open it: in order, and each once
pub record AreOpeningsOf (sets : List (Ends VersionValue)) (openings : List Opening) : Type 0 where
  pub ascending : IsSortedByKey (λ (o : Opening). o.triple) triple_cmp openings
  pub places : (v : VersionValue)
      → map (λ (o : Opening). o.place) (filter (is_opening_of v) openings) ≡ places_opening v 0 sets

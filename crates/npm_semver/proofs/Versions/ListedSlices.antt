-- The text of identifiers in a text is a list of them.
use Rattle.std.proofs.Common.{◌≡◌, ◌+◌, ◌-◌, ◌<◌, ◌≤◌, ◌⊎◌, ℕ, Bool, true, List, [], ◌∷◌, ◌++◌}
use Rattle.std.proofs.Common.{length, get_or, take, drop}
use Rattle.std.proofs.Common.{suc, sym, ap, ◌∙◌, subst, arith, length-take, length-drop}
use Rattle.std.proofs.Math.Seq.{drop-cons, take-add}
use Rattle.std.proofs.lemmas.List.{drop-drop, get_or-drop, get_or-take}
use Rattle.std.proofs.lemmas.List.Elements.{All-from_get_or}
use Rattle.std.proofs.lemmas.List.Sums.{list_all-from_AllPass}
use Rattle.std.specs.List.{AllByRecursion, list_all}
use Rattle.std.specs.Prelude.{slice_index, slice_range}
use Rattle.semver_texts.specs.Characters.{AreAll, is_identifier_character}
use Rattle.npm_semver.specs.CoerceWithPrerelease.{last, more}
use Rattle.semver_texts.specs.IdentifierText.{IsIdentifierText, IsListed, parts_of}
use Rattle.npm_semver.specs.Private.ExtraViews.{IsListOf, IsLongestOf, IsMarkedOf}
use Rattle.npm_semver.specs.declared.coercion.extras.Extra.{Extra}
use Rattle.semver_texts.specs.Lemmas.Public.{parts-alone, parts-before}
use Rattle.npm_semver.proofs.Versions.Extras.{identifier_characters, list_some, list_within}

-- ---- slices

pub slice_length : (text : List ℕ) (start end : ℕ) → start ≤ end → end ≤ length text
    → length (slice_range text start end) ≡ end - start
slice_length text start end to within = grind (arith, length-take, length-drop)

pub slice_at : (text : List ℕ) (start end i : ℕ) → i < end - start
    → get_or (slice_range text start end) i 0 ≡ slice_index text (start + i)
slice_at text start end i below = grind (arith, get_or-take, get_or-drop)

-- from `start` up to `middle`, the character there, and the rest
slice_parts : (text : List ℕ) (start middle end : ℕ) → start ≤ middle → middle < end → end ≤ length text
    → slice_range text start end
    ≡ slice_range text start middle ++ (slice_index text middle ∷ slice_range text (middle + 1) end)
slice_parts text start middle end to before within =
    let size : end - start ≡ (middle - start) + suc (end - (middle + 1)) = omega (arith, to, before) in
    let there : start + (middle - start) ≡ middle = omega (arith, to) in
    let next : suc middle ≡ middle + 1 = omega arith in
    ap (λ (n : ℕ). take n (drop start text)) size
    ∙ take-add (middle - start) (suc (end - (middle + 1))) (drop start text)
    ∙ ap (λ (l : List ℕ). slice_range text start middle ++ take (suc (end - (middle + 1))) l)
    (drop-drop (middle - start) start text ∙ ap (λ (n : ℕ). drop n text) there
    ∙ drop-cons text middle 0 (omega (arith, before, within)))
    ∙ ap (λ (n : ℕ). slice_range text start middle ++ (get_or text middle 0 ∷ take (end - (middle + 1)) (drop n text)))
    next

-- ---- identifiers

all_in : (test : ℕ → Bool) (text : List ℕ) (start end : ℕ) → start ≤ end → end ≤ length text
    → ((place : ℕ) → start ≤ place → place < end → test (slice_index text place) ≡ true)
    → list_all test (slice_range text start end) ≡ true
all_in test text start end to within passes =
    let size = slice_length text start end to within in
    list_all-from_AllPass test (slice_range text start end)
    (All-from_get_or (λ (b : ℕ). test b ≡ true) (slice_range text start end) 0 (λ i below.
    subst (λ (b : ℕ). test b ≡ true) (sym (slice_at text start end i (omega (arith, below, size))))
    (passes (start + i) (omega arith) (omega (arith, below, size)))))

identifier_text : (text : List ℕ) → 0 < length text → AreAll is_identifier_character text → IsIdentifierText text
identifier_text text some all = grind arith

-- ---- lists

parts_in : (extra : Extra) (text : List ℕ) (start end : ℕ) → IsListOf extra text start end
    → AllByRecursion IsIdentifierText (parts_of (slice_range text start end))
parts_in extra text start end (last _ _ h) =
    grind (arith, identifier_characters, parts-alone, identifier_text, slice_length, all_in)
parts_in extra text start end (more _ middle _ h point rest) = grind (
  arith,
  list_some extra text (middle + 1) end rest,
  list_within extra text (middle + 1) end rest,
  slice_parts text start middle end,
  parts-before (slice_range text start middle) (slice_range text (middle + 1) end),
  parts_in extra text (middle + 1) end rest,
  identifier_text,
  slice_length,
  all_in,
)

-- and so is what follows a mark, or nothing
none_after : (text : List ℕ) (start end : ℕ) → end ≡ start → slice_range text (start + 1) end ≡ []
none_after text start end same = grind arith

listed_there : (extra : Extra) (text : List ℕ) (start end : ℕ) → (end ≡ start) ⊎ IsMarkedOf extra text start end
    → IsListed (slice_range text (start + 1) end)
listed_there extra text start end h5 = grind (arith, none_after, slice_length, list_some, list_within, parts_in)

pub listed_after : (extra : Extra) (text : List ℕ) (start end : ℕ) → IsLongestOf extra text start end
    → IsListed (slice_range text (start + 1) end)
listed_after extra text start end h = listed_there extra text start end h.there

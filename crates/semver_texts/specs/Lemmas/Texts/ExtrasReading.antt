-- Prereleases, builds and extras: the readers read exactly these texts.
use Rattle.std.proofs.Common.{arith}
use Rattle.std.proofs.Common.{◌≡◌, ◌⊎◌, ℕ, true, false, List, [], ◌∷◌, ◌++◌, refl, ap}
use Rattle.std.proofs.Common.{append_assoc}
use Rattle.std.proofs.lemmas.Bool.{cond-false, cond-true, or_parts}
use Rattle.std.specs.Prelude.{◌==◌}
use Rattle.semver_texts.specs.Characters.{BeginsWith, BeginsWithNo, dot, hyphen, is_identifier_character, plus}
use Rattle.semver_texts.specs.IdentifierText.{IsBuildText, IsExtrasText, IsIdentifierList, IsPrereleaseText}
use Rattle.semver_texts.specs.IdentifierValue.{IdentifierValue}
use Rattle.semver_texts.specs.Reading.{skip_one, skip_plus, begins, read_build, read_extras, list_rest}
use Rattle.semver_texts.specs.Reading.{list_prefix, read_list_or, list_values, read_prerelease}
use Rattle.semver_texts.specs.Lemmas.Texts.Prefixes.{begins-append, with-begins}
use Rattle.semver_texts.specs.Lemmas.Texts.IdentifierReading.{EndsExtras, ends-list, ends-plus}
use Rattle.semver_texts.specs.Lemmas.Texts.IdentifierReading.{goes_on-character}
use Rattle.semver_texts.specs.Lemmas.Texts.IdentifierReading.{is_of_list, list-again, list-takes, list-whole}
use Rattle.semver_texts.specs.Lemmas.Texts.IdentifierReading.{some-values, stops-list}

-- the reader's result in each case
pub read_list_or-some : (otherwise text : List ℕ) → begins is_identifier_character text ≡ true
    → read_list_or otherwise text ≡ (list_values text, list_rest text)
read_list_or-some otherwise text h = cond-true _ _ _ h

pub read_list_or-none : (otherwise text : List ℕ) → begins is_identifier_character text ≡ false
    → read_list_or otherwise text ≡ ([], otherwise)
read_list_or-none otherwise text h = cond-false _ _ _ h

-- the text before the rest is a prerelease text
pub record TakesPrerelease (text : List ℕ) (identifiers : List IdentifierValue) (rest : List ℕ) : Type 0 where
  pub taken : List ℕ
  pub whole : text ≡ taken ++ rest
  pub read : IsPrereleaseText taken identifiers

no-prerelease : (text : List ℕ) → TakesPrerelease text [] text
no-prerelease text = record { taken = []; whole = refl; read = refl }

-- the longest list begins as the text does
prefix_of-no-hyphen : (b : ℕ) (rest : List ℕ) → is_identifier_character b ≡ true → (b == hyphen) ≡ false
    → BeginsWithNo (λ c. c == hyphen) (list_prefix (b ∷ rest))
unfolding list_prefix
prefix_of-no-hyphen b rest some other = rw (goes_on-character b rest some) other

-- a list of identifiers that is not empty makes a prerelease text, after a hyphen or without one
listed-prerelease : (taken list : List ℕ) (identifiers : List IdentifierValue)
    → (first : IdentifierValue) × (others : List IdentifierValue) × (identifiers ≡ first ∷ others)
    → (taken ≡ hyphen ∷ list) ⊎ ((taken ≡ list) × BeginsWithNo (λ b. b == hyphen) list)
    → IsIdentifierList list identifiers → IsPrereleaseText taken identifiers
listed-prerelease taken list identifiers some how read = grind arith

pub read_prerelease-hyphen : (b : ℕ) (rest : List ℕ) → (b == hyphen) ≡ true
    → read_prerelease (b ∷ rest) ≡ read_list_or (b ∷ rest) rest
unfolding read_prerelease skip_one
read_prerelease-hyphen b rest h = ap (read_list_or (b ∷ rest)) (cond-true (b == hyphen) rest (b ∷ rest) h)

pub read_prerelease-other : (b : ℕ) (rest : List ℕ) → (b == hyphen) ≡ false
    → read_prerelease (b ∷ rest) ≡ read_list_or (b ∷ rest) (b ∷ rest)
unfolding read_prerelease skip_one
read_prerelease-other b rest h = ap (read_list_or (b ∷ rest)) (cond-false (b == hyphen) rest (b ∷ rest) h)

pub read_build-plus : (b : ℕ) (rest : List ℕ) → (b == plus) ≡ true
    → read_build (b ∷ rest) ≡ read_list_or (b ∷ rest) rest
unfolding read_build skip_plus
read_build-plus b rest h = ap (read_list_or (b ∷ rest)) (cond-true (b == plus) rest [] h)

pub read_build-other : (b : ℕ) (rest : List ℕ) → (b == plus) ≡ false → read_build (b ∷ rest) ≡ ([], b ∷ rest)
unfolding read_build skip_plus
read_build-other b rest h = ap (read_list_or (b ∷ rest)) (cond-false (b == plus) rest [] h)

-- the longest list after a hyphen, and one without a hyphen
hyphen-taken : (rest : List ℕ) → begins is_identifier_character rest ≡ true
    → TakesPrerelease (hyphen ∷ rest) (list_values rest) (list_rest rest)
hyphen-taken rest some = record {
  taken = hyphen ∷ list_prefix rest;
  whole = grind (arith, list-whole rest);
  read = grind (arith, listed-prerelease, some-values rest, list-takes rest some);
}

bare-taken : (b : ℕ) (rest : List ℕ) → is_identifier_character b ≡ true → (b == hyphen) ≡ false
    → TakesPrerelease (b ∷ rest) (list_values (b ∷ rest)) (list_rest (b ∷ rest))
bare-taken b rest some other =
    grind (
      arith,
      list-whole (b ∷ rest),
      some-values (b ∷ rest),
      list-takes (b ∷ rest) some,
      prefix_of-no-hyphen b rest some other,
    )

-- as read
abbrev Takes : List ℕ → List IdentifierValue × List ℕ → Type 0
Takes text read = TakesPrerelease text read.0 read.1

pub prerelease-takes : (text : List ℕ) → Takes text (read_prerelease text)
unfolding read_prerelease skip_one
prerelease-takes text = grind (arith, no-prerelease, hyphen-taken, bare-taken)

-- the text before the rest is a build text
pub record TakesBuild (text : List ℕ) (read : List IdentifierValue × List ℕ) : Type 0 where
  pub taken : List ℕ
  pub whole : text ≡ taken ++ read.1
  pub build : IsBuildText taken read.0

no-build : (text : List ℕ) → TakesBuild text ([], text)
no-build text = record { taken = []; whole = refl; build = refl }

listed-build : (list : List ℕ) (identifiers : List IdentifierValue)
    → (first : IdentifierValue) × (others : List IdentifierValue) × (identifiers ≡ first ∷ others)
    → IsIdentifierList list identifiers → IsBuildText (plus ∷ list) identifiers
listed-build list identifiers some read = grind arith

-- the longest list after a plus
plus-taken : (rest : List ℕ) → begins is_identifier_character rest ≡ true
    → TakesBuild (plus ∷ rest) (list_values rest, list_rest rest)
plus-taken rest some = record {
  taken = plus ∷ list_prefix rest;
  whole = grind (arith, list-whole rest);
  build = grind (arith, listed-build, some-values rest, list-takes rest some);
}

pub build-takes : (text : List ℕ) → TakesBuild text (read_build text)
unfolding read_build skip_plus
build-takes text = grind (arith, no-build text, plus-taken)

-- the text before the rest is one of extras
pub record TakesExtras (text : List ℕ) (read : (List IdentifierValue × List IdentifierValue) × List ℕ) : Type 0 where
  pub taken : List ℕ
  pub whole : text ≡ taken ++ read.1
  pub extras : IsExtrasText taken read.0.0 read.0.1

pub extras-takes : (text : List ℕ) → TakesExtras text (read_extras text)
unfolding read_extras
extras-takes text =
    let p = prerelease-takes text in
    let b = build-takes (read_prerelease text).1 in
    record { taken = p.taken ++ b.taken; whole = grind (arith, append_assoc p.taken b.taken); extras = grind arith }

-- a build text is read
build-again : (text rest : List ℕ) (identifiers : List IdentifierValue) → IsBuildText text identifiers
    → EndsExtras rest → read_build (text ++ rest) ≡ (identifiers, rest)
unfolding read_build skip_plus
build-again text [] [] h ends = rw h refl
build-again text (c ∷ rest) [] h ends = rw h (read_build-other c rest (ends-plus (c ∷ rest) ends))
build-again text rest (i ∷ is) h ends =
    grind (arith, list-again h.0 rest (i ∷ is) h.2 (stops-list rest (ends-list rest ends)))

-- a list that begins with no hyphen is read from its first character on
prerelease-alone : (text : List ℕ) → BeginsWithNo (λ b. b == hyphen) text → begins is_identifier_character text ≡ true
    → read_prerelease text ≡ (list_values text, list_rest text)
prerelease-alone text h some = grind (arith, read_prerelease-other, read_list_or-some)

-- as a list after a hyphen is read
prerelease-behind : (list rest : List ℕ) → begins is_identifier_character (list ++ rest) ≡ true
    → read_prerelease (hyphen ∷ (list ++ rest)) ≡ (list_values (list ++ rest), list_rest (list ++ rest))
prerelease-behind list rest starts = grind (arith, read_prerelease-hyphen, read_list_or-some)

-- a list after a hyphen or without one is read
pub prerelease-listed : (text list rest : List ℕ)
    → (text ≡ hyphen ∷ list) ⊎ ((text ≡ list) × BeginsWithNo (λ b. b == hyphen) list)
    → BeginsWith is_identifier_character list
    → read_prerelease (text ++ rest) ≡ (list_values (list ++ rest), list_rest (list ++ rest))
prerelease-listed text list rest how begin =
    grind (arith, with-begins, begins-append, prerelease-behind, prerelease-alone)

-- a prerelease text is read
pub prerelease-again : (text rest : List ℕ) (identifiers : List IdentifierValue) → IsPrereleaseText text identifiers
    → BeginsWithNo is_of_list rest → read_prerelease (text ++ rest) ≡ (identifiers, rest)
unfolding read_prerelease skip_one
prerelease-again text [] [] h ends = rw h refl
prerelease-again text (c ∷ rest) [] h ends = grind (arith, or_parts, read_prerelease-other, read_list_or-none)
prerelease-again text rest (i ∷ is) h ends =
    grind (arith, list-again h.0 rest (i ∷ is) h.2 (stops-list rest ends), stops-list rest ends, prerelease-listed)

-- extras are read, if the rest begins with none
pub extras-again : (text rest : List ℕ) (prerelease build : List IdentifierValue) → IsExtrasText text prerelease build
    → EndsExtras rest → read_extras (text ++ rest) ≡ ((prerelease, build), rest)
unfolding read_extras
extras-again text rest prerelease build h ends = grind (arith, prerelease-again, build-again, append_assoc)

-- ---- nothing

-- no extras are read of nothing
pub no_extras : read_extras [] ≡ (([], []), [])
unfolding read_extras read_prerelease read_build skip_one skip_plus
no_extras = refl

-- the pieces of the extras, put after the third part
pub regroup : (major minor patch extras rest : List ℕ)
    → major ++ (dot ∷ (minor ++ (dot ∷ (patch ++ (extras ++ rest)))))
    ≡ (major ++ (dot ∷ (minor ++ (dot ∷ (patch ++ extras))))) ++ rest
regroup major minor patch extras rest = simp append_assoc

-- Worked examples: which prerelease follows a number in a text, and which version is found with it.
use Rattle.std.proofs.Common.{◌≡◌, ◌+◌, ◌-◌, ◌<◌, ◌≤◌, ℕ, Bool, true, false, List, [], ◌∷◌, codes, length, refl, sym}
use Rattle.std.proofs.Common.{inl, inr, subst, arith, lit<, lit≤}
use Rattle.std.proofs.lemmas.List.Elements.{All-get_or}
use Rattle.std.proofs.lemmas.List.Sums.{AllPass-from_list_all}
use Rattle.std.specs.List.{list_all}
use Rattle.std.specs.Prelude.{slice_index, slice_range}
use Rattle.semver_texts.specs.Characters.{hyphen, is_digit, is_identifier_character}
use Rattle.npm_semver.specs.Coerce.{IsNumberAt}
use Rattle.npm_semver.specs.CoerceWithPrerelease.{Ends, IsCoercedWithPrerelease, IsFullPiece}
use Rattle.npm_semver.specs.CoerceWithPrerelease.{IsLongestAt, IsNumericAt, IsPrereleaseIdentifierAt, IsRunAt}
use Rattle.npm_semver.specs.CoerceWithPrerelease.{IsVersionOf, IsWordAt, last}
use Rattle.semver_texts.specs.IdentifierValue.{alphanumeric}
use Rattle.semver_texts.specs.Version.{VersionValue, release}
use Rattle.npm_semver.specs.declared.coercion.extras.Extra.TheVariants.{Prerelease}
use Rattle.npm_semver.proofs.Examples.CoerceExamples.{none_before, one_digit, one_there}
use Rattle.npm_semver.proofs.Versions.Extras.{list_first, list_from, one_run}
use Rattle.npm_semver.proofs.Versions.ListedSlices.{slice_at, slice_length}
use Rattle.npm_semver.proofs.Versions.Pieces.{one_from}

-- ---- runs of characters

run_by : (test : ℕ → Bool) (text : List ℕ) (start end : ℕ) → start < end → end ≤ length text
    → list_all test (slice_range text start end) ≡ true → test (slice_index text end) ≡ false
    → IsRunAt test text start end
run_by test text start end some within all after =
    let size = slice_length text start end (omega (arith, some)) within in
    record {
      within = within;
      some = some;
      passes = λ place from to.
          let inside : place - start < end - start = omega (arith, from, to) in
          let there : start + (place - start) ≡ place = omega (arith, from) in
          let here : test (slice_index text (start + (place - start))) ≡ true =
          subst (λ (b : ℕ). test b ≡ true) (slice_at text start end (place - start) inside)
          (All-get_or (λ (b : ℕ). test b ≡ true) (slice_range text start end) (place - start) 0
          (omega (arith, inside, size)) (AllPass-from_list_all test (slice_range text start end) all)) in
          subst (λ (p : ℕ). test (slice_index text p) ≡ true) there here;
      after = after;
    }

-- ---- identifiers

-- `10` of `10a`
ten_there : IsNumericAt (codes "10a") 0 2
ten_there = record {
  digits = run_by is_digit (codes "10a") 0 2 (lit< tt) (lit≤ tt) refl refl;
  strict = λ zero. cc zero;
}

-- no number at the start of `010`
zeros_none : (end : ℕ) → ¬ IsNumericAt (codes "010") 0 end
zeros_none end h =
    let run = run_by is_digit (codes "010") 0 3 (lit< tt) (lit≤ tt) refl refl in
    absurd (omega (arith, one_run is_digit (codes "010") 0 3 end run h.digits, h.strict refl))

-- `01a` is a word
word_there : IsWordAt (codes "01a") 0 3
word_there =
    let run = run_by is_digit (codes "01a") 0 2 (lit< tt) (lit≤ tt) refl refl in
    record {
      characters = run_by is_identifier_character (codes "01a") 0 3 (lit< tt) (lit≤ tt) refl refl;
      letter = λ digits. absurd (omega (arith, one_run is_digit (codes "01a") 0 2 3 run digits));
      number = λ other h.
          absurd (omega (arith, one_run is_digit (codes "01a") 0 2 other run h.digits, h.strict refl));
    }

-- ---- prereleases

-- `-4` of `1-4f`
four_there : IsLongestAt hyphen IsPrereleaseIdentifierAt (codes "1-4f") 1 3
four_there =
    let four : IsNumericAt (codes "1-4f") 2 3 = record {
      digits = run_by is_digit (codes "1-4f") 2 3 (lit< tt) (lit≤ tt) refl refl;
      strict = λ zero. cc zero;
    } in
    record {
      there = inr (refl, last 2 3 (inl four));
      longest = λ other h. elim (list_from Prerelease (codes "1-4f") 2 3 other (inl four) h.1) [
        | inl before ↦ before
        | inr more ↦ cc more.0
      ];
    }

-- none in `1-01`
no_identifier : (end : ℕ) → ¬ IsPrereleaseIdentifierAt (codes "1-01") 2 end
no_identifier end (inl h) =
    let run = run_by is_digit (codes "1-01") 2 4 (lit< tt) (lit≤ tt) refl refl in
    absurd (omega (arith, one_run is_digit (codes "1-01") 2 4 end run h.digits, h.strict refl))
no_identifier end (inr h) =
    let run = run_by is_identifier_character (codes "1-01") 2 4 (lit< tt) (lit≤ tt) refl refl in
    let same = one_run is_identifier_character (codes "1-01") 2 4 end run h.characters in
    absurd (h.letter (subst (λ (n : ℕ). IsRunAt is_digit (codes "1-01") 2 n) (sym same)
    (run_by is_digit (codes "1-01") 2 4 (lit< tt) (lit≤ tt) refl refl)))

none_there : IsLongestAt hyphen IsPrereleaseIdentifierAt (codes "1-01") 1 1
none_there = record {
  there = inl refl;
  longest = λ other h.
      let first = list_first Prerelease (codes "1-01") 2 other h.1 in
      absurd (no_identifier first.0 first.1);
}

-- ---- the version of `1-a`, from both sides

one_at : IsNumberAt (codes "1-a") 0 1
one_at = one_digit (codes "1-a") 0 (lit≤ tt) refl (none_before (codes "1-a")) refl

letter_there : IsWordAt (codes "1-a") 2 3
letter_there = record {
  characters = run_by is_identifier_character (codes "1-a") 2 3 (lit< tt) (lit≤ tt) refl refl;
  letter = λ digits. cc (digits.passes 2 (lit≤ tt) (lit< tt));
  number = λ other h. cc (h.digits.passes 2 (lit≤ tt) h.digits.some);
}

abbrev places : Ends
places = record { numbers = 1; prerelease = 3; build = 3 }

full_there : IsFullPiece (codes "1-a") 0 places (codes "1" ∷ [])
full_there =
    let piece = one_from (codes "1-a") 0 1 one_at (λ end point h. cc point) in
    record {
      piece = piece.piece;
      longest = piece.longest;
      prerelease = record {
        there = inr (refl, last 2 3 (inr letter_there));
        longest = λ other h. elim (list_from Prerelease (codes "1-a") 2 3 other (inr letter_there) h.1) [
          | inl before ↦ before
          | inr more ↦ cc more.0
        ];
      };
      build = record { there = inl refl; longest = λ other h. cc h.0 };
    }

abbrev found : VersionValue
found = record (release 1 0 0) { pre_release = alphanumeric (codes "a") ∷ [] }

version_there : IsVersionOf (codes "1-a") 0 places (codes "1" ∷ []) found
version_there = record { short = lit≤ tt; triple = (1, one_there, refl); prerelease = refl; build = refl }

from_left : IsCoercedWithPrerelease false (codes "1-a") found
from_left = record {
  start = 0;
  ends = places;
  numbers = codes "1" ∷ [];
  chosen = record { full = full_there; first = λ start end others h. omega arith };
  version = version_there;
}

from_right : IsCoercedWithPrerelease true (codes "1-a") found
from_right = record {
  start = 0;
  ends = places;
  numbers = codes "1" ∷ [];
  chosen = record {
    full = full_there;
    short = lit≤ tt;
    last = inl (lit≤ tt);
    longest = λ start end h ends. omega arith;
  };
  version = version_there;
}

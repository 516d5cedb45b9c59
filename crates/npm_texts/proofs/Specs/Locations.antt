-- The function that tells locations gives what the grammar says.
use Rattle.std.proofs.Common.{◌≡◌, ◌∙◌, ◌==◌, ◌∷◌, ◌++◌, ◌||◌, ◌-◌, ℕ, List, Bool, true, false, Some}
use Rattle.std.proofs.Common.{Decides, ap, arith, codes, drop, inl, inr, length, nat_eq, not, refl, sym, take, unwrap_or}
use Rattle.std.proofs.Common.{eq-eqb, eqb-true}
use Rattle.std.proofs.lemmas.Bool.{and_from, and_parts, cases_Bool, not-true, or_cases, or_left, or_right}
use Rattle.std.proofs.lemmas.Bool.Decides.{Decides-eqb, nat_tests}
use Rattle.std.proofs.lemmas.Slice.Eq.{ends_is, starts_is}
use Rattle.std.proofs.Math.Seq.{drop-append_seam}
use Rattle.std.specs.Char.{is_ascii_alphabetic}
use Rattle.std.specs.List.{before_first, ends_with, list_any, position_or_len, starts_with}
use Rattle.npm_texts.specs.RangeText.{all_letters, begins_url, ends_archive, has_scheme, is_elsewhere}
use Rattle.npm_texts.specs.SpecGrammar.{AreSome, HasNo, IsLocation, IsScheme, archive, is_colon, is_slash}
use Rattle.npm_texts.specs.SpecGrammar.{from_dot, gist, git, letters, url, with_slash}
use Rattle.npm_texts.specs.Texts.{rest_after}
use Rattle.npm_texts.proofs.Specs.Archives.{archive-again, archive-takes}
use Rattle.npm_texts.proofs.Specs.Splits.{Split, all-none, before-first, first, none, position-inside, position-none}
use Rattle.npm_texts.proofs.Specs.Splits.{some-Decides, split}

-- ---- starts and ends

pub starts : (text start : List ℕ) → Decides (starts_with nat_eq text start) ((rest : List ℕ) × (text ≡ start ++ rest))
starts text start =
    let is = starts_is Decides-eqb text start (starts_with nat_eq text start) refl in
    ((λ h. (drop (length start) text, is.0 h)), (λ found. is.1 found.0 found.1))

ends : (text end : List ℕ) → Decides (ends_with nat_eq text end) ((start : List ℕ) × (text ≡ start ++ end))
ends text end =
    let is = ends_is Decides-eqb text end (ends_with nat_eq text end) refl in
    ((λ h. (take (length text - length end) text, is.0 h)), (λ found. is.1 found.0 found.1))

-- the text after a start that it has
pub rest-again : (start rest : List ℕ) → rest_after start (start ++ rest) ≡ Some rest
rest-again start rest =
    let is = (starts (start ++ rest) start).1 (rest, refl) in
    rw is (ap Some (drop-append_seam start rest))

-- ---- schemes

letter-no_colon : (b : ℕ) → is_ascii_alphabetic b ≡ true → is_colon b ≡ false
letter-no_colon b h = grind (arith, nat_tests)

letters-no_colon : (text : List ℕ) → AreSome is_ascii_alphabetic text → HasNo is_colon text
letters-no_colon text are = all-none is_ascii_alphabetic is_colon letter-no_colon text are.1

scheme-no_colon : (text : List ℕ) → IsScheme text → HasNo is_colon text
scheme-no_colon text (letters are) = letters-no_colon text are
scheme-no_colon text (git protocol whole are) = rw whole (letters-no_colon protocol are)
scheme-no_colon text (gist user whole no_colon) = no_colon

letters-takes : (text : List ℕ) → all_letters (unwrap_or (rest_after (codes "git+") text) text) ≡ true → IsScheme text
letters-takes text h = elim (cases_Bool (starts_with nat_eq text (codes "git+"))) [
  | inl is ↦
      let found = (starts text (codes "git+")).0 is in
      let given : rest_after (codes "git+") text ≡ Some found.0 =
      ap (rest_after (codes "git+")) found.1 ∙ rest-again (codes "git+") found.0 in
      git found.0 found.1 ((some-Decides is_ascii_alphabetic found.0).0 (rw given at h))
  | inr is_not ↦ letters ((some-Decides is_ascii_alphabetic text).0 (rw is_not at h))
]

scheme-takes : (text : List ℕ) → begins_url text ≡ true → HasNo is_colon text → IsScheme text
scheme-takes text h no_colon = elim (or_cases (all_letters (unwrap_or (rest_after (codes "git+") text) text))
    (ends_with nat_eq text (codes "@gist.github.com")) h) [
      | inl are ↦ letters-takes text are
      | inr is ↦ let found = (ends text (codes "@gist.github.com")).0 is in gist found.0 found.1 no_colon
    ]

letters-again : (text : List ℕ) → AreSome is_ascii_alphabetic text
    → all_letters (unwrap_or (rest_after (codes "git+") text) text) ≡ true
letters-again text are = elim (cases_Bool (starts_with nat_eq text (codes "git+"))) [
  | inl is ↦
      let found = (starts text (codes "git+")).0 is in
      let no : false ≡ true = rw found.1 at are.1 in
      cc no
  | inr is_not ↦ rw is_not ((some-Decides is_ascii_alphabetic text).1 are)
]

scheme-again : (text : List ℕ) → IsScheme text → begins_url text ≡ true
scheme-again text (letters are) =
    or_left _ (ends_with nat_eq text (codes "@gist.github.com")) (letters-again text are)
scheme-again text (git protocol whole are) =
    let given : rest_after (codes "git+") text ≡ Some protocol =
    ap (rest_after (codes "git+")) whole ∙ rest-again (codes "git+") protocol in
    or_left _ (ends_with nat_eq text (codes "@gist.github.com")) (rw given ((some-Decides is_ascii_alphabetic protocol).1 are))
scheme-again text (gist user whole no_colon) =
    or_right (all_letters (unwrap_or (rest_after (codes "git+") text) text))
    (ends_with nat_eq text (codes "@gist.github.com")) ((ends text (codes "@gist.github.com")).1 (user, whole))

-- ---- URLs

url-takes : (text : List ℕ) → Split is_colon text → has_scheme text ≡ true → IsLocation text
url-takes text (none absent) h =
    let parts = and_parts (not (position_or_len is_colon text == length text)) (begins_url (before_first is_colon text)) h in
    let whole : (position_or_len is_colon text == length text) ≡ true =
    eq-eqb _ _ (position-none is_colon text absent) in
    cc (not-true (position_or_len is_colon text == length text) parts.0, whole)
url-takes text (first before b after whole absent passes) h =
    let begun : begins_url (before_first is_colon text) ≡ true =
    (and_parts (not (position_or_len is_colon text == length text)) (begins_url (before_first is_colon text)) h).1 in
    let start : before_first is_colon text ≡ before =
    ap (before_first is_colon) whole ∙ before-first is_colon b after passes before absent in
    url before after (whole ∙ ap (λ (c : ℕ). before ++ (c ∷ after)) (eqb-true b 58 passes))
    (scheme-takes before (sym (ap begins_url start) ∙ begun) absent)

url-again : (scheme rest : List ℕ) → IsScheme scheme → has_scheme (scheme ++ (58 ∷ rest)) ≡ true
url-again scheme rest is =
    let no_colon = scheme-no_colon scheme is in
    and_from (not (position_or_len is_colon (scheme ++ (58 ∷ rest)) == length (scheme ++ (58 ∷ rest))))
    (begins_url (before_first is_colon (scheme ++ (58 ∷ rest))))
    (ap not (position-inside is_colon 58 rest refl scheme no_colon))
    (ap begins_url (before-first is_colon 58 rest refl scheme no_colon) ∙ scheme-again scheme is)

-- ---- locations

-- the first three of the four forms
abbrev is_dotted : List ℕ → Bool
is_dotted text = starts_with nat_eq text (codes ".")

abbrev is_inside : List ℕ → Bool
is_inside text = is_dotted text || list_any is_slash text

location-takes : (text : List ℕ) → is_elsewhere text ≡ true → IsLocation text
location-takes text h = elim (or_cases (is_inside text || has_scheme text) (ends_archive text) h) [
  | inl three ↦ elim (or_cases (is_inside text) (has_scheme text) three) [
    | inl two ↦ elim (or_cases (is_dotted text) (list_any is_slash text) two) [
      | inl is ↦ let found = (starts text (codes ".")).0 is in from_dot found.0 found.1
      | inr has ↦ with_slash has
    ]
    | inr is ↦ url-takes text (split is_colon text) is
  ]
  | inr is ↦ archive-takes text is
]

location-again : (text : List ℕ) → IsLocation text → is_elsewhere text ≡ true
location-again text (from_dot rest whole) =
    or_left _ (ends_archive text) (or_left _ (has_scheme text)
    (or_left _ (list_any is_slash text) ((starts text (codes ".")).1 (rest, whole))))
location-again text (with_slash has) =
    or_left _ (ends_archive text) (or_left _ (has_scheme text) (or_right (is_dotted text) _ has))
location-again text (url scheme rest whole is) =
    or_left _ (ends_archive text) (or_right (is_inside text) _ (ap has_scheme whole ∙ url-again scheme rest is))
location-again text (archive start end whole is) =
    or_right (is_inside text || has_scheme text) _ (archive-again text start end whole is)

pub location-Decides : (text : List ℕ) → Decides (is_elsewhere text) (IsLocation text)
location-Decides text = (location-takes text, location-again text)

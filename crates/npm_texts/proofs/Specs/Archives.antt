-- The function that tells archives gives what the grammar says.
use Rattle.std.proofs.Common.{◌≡◌, ◌∙◌, ◌==◌, ◌∷◌, ◌++◌, ◌||◌, ℕ, List, [], Bool, true, false, Option, Some, None}
use Rattle.std.proofs.Common.{ap, append_assoc, codes, eq-eqb, eqb-true, if◌then◌else◌, inl, inr, is_some, map}
use Rattle.std.proofs.Common.{option_and_then, refl, reverse, subst, sym}
use Rattle.std.proofs.lemmas.Bool.{cases_Bool, or_cases, or_left, or_right}
use Rattle.std.proofs.lemmas.List.{reverse-append, reverse-reverse}
use Rattle.std.proofs.lemmas.Option.{same_Some}
use Rattle.std.specs.Char.{to_ascii_lowercase}
use Rattle.npm_texts.specs.RangeText.{before_tar, before_tar_gz, before_tgz, ends_archive, past_any, past_letter}
use Rattle.npm_texts.specs.RangeText.{past_letters}
use Rattle.npm_texts.specs.SpecGrammar.{IsArchiveEnd, IsLocation, archive, is_any, tar, tar_gz, tgz}

-- ---- lists in reverse

map-append : (front end : List ℕ) → map to_ascii_lowercase (front ++ end)
    ≡ map to_ascii_lowercase front ++ map to_ascii_lowercase end
map-append [] end = refl
map-append (c ∷ front) end = ap (λ (l : List ℕ). to_ascii_lowercase c ∷ l) (map-append front end)

small-reverse : (cs : List ℕ) → map to_ascii_lowercase (reverse cs) ≡ reverse (map to_ascii_lowercase cs)
small-reverse [] = refl
small-reverse (c ∷ cs) =
    ap (map to_ascii_lowercase) (reverse-append (c ∷ []) cs)
    ∙ map-append (reverse cs) (c ∷ [])
    ∙ ap (λ (l : List ℕ). l ++ (to_ascii_lowercase c ∷ [])) (small-reverse cs)
    ∙ sym (reverse-append (to_ascii_lowercase c ∷ []) (map to_ascii_lowercase cs))

-- ---- steps

some-takes : (o : Option (List ℕ)) → is_some o ≡ true → (cs : List ℕ) × (o ≡ Some cs)
some-takes None h = cc h
some-takes (Some cs) h = (cs, refl)

-- the result of the first of two steps
first-step : (f : List ℕ → Option (List ℕ)) (o : Option (List ℕ)) (rest : List ℕ) → option_and_then f o ≡ Some rest
    → (text : List ℕ) × (o ≡ Some text) × (f text ≡ Some rest)
first-step f None rest h = cc h
first-step f (Some text) rest h = (text, refl, h)

letter-takes : (letter : ℕ) (cs rest : List ℕ) → past_letter letter cs ≡ Some rest
    → (c : ℕ) × (cs ≡ c ∷ rest) × (to_ascii_lowercase c ≡ letter)
letter-takes letter [] rest h = cc h
letter-takes letter (c ∷ cs) rest h = elim (cases_Bool (to_ascii_lowercase c == letter)) [
  | inl is ↦
      let same : Some cs ≡ Some rest = rw is at h in
      (c, ap (λ (l : List ℕ). c ∷ l) (same_Some _ _ same), eqb-true (to_ascii_lowercase c) letter is)
  | inr is_not ↦ let none : None ≡ Some rest = rw is_not at h in cc none
]

letter-again : (c : ℕ) (rest : List ℕ) → past_letter (to_ascii_lowercase c) (c ∷ rest) ≡ Some rest
letter-again c rest = rw (eq-eqb (to_ascii_lowercase c) (to_ascii_lowercase c) refl) refl

any-takes : (cs rest : List ℕ) → past_any cs ≡ Some rest → (c : ℕ) × (cs ≡ c ∷ rest) × (is_any c ≡ true)
any-takes [] rest h = cc h
any-takes (c ∷ cs) rest h = elim (cases_Bool (is_any c)) [
  | inl is ↦
      let same : Some cs ≡ Some rest = rw is at h in
      (c, ap (λ (l : List ℕ). c ∷ l) (same_Some _ _ same), is)
  | inr is_not ↦ let none : None ≡ Some rest = rw is_not at h in cc none
]

any-again : (c : ℕ) (rest : List ℕ) → is_any c ≡ true → past_any (c ∷ rest) ≡ Some rest
any-again c rest is = rw is refl

-- ---- several letters

-- the text begins with these letters, small or capital
abbrev Begins : (letters cs rest : List ℕ) → Type 0
Begins letters cs rest = (front : List ℕ) × (cs ≡ front ++ rest) × (map to_ascii_lowercase front ≡ letters)

letters-takes : (letters cs rest : List ℕ) → past_letters letters cs ≡ Some rest → Begins letters cs rest
letters-takes [] cs rest h = ([], same_Some _ _ h, refl)
letters-takes (letter ∷ letters) cs rest h =
    let step = first-step (past_letters letters) (past_letter letter cs) rest h in
    let one = letter-takes letter cs step.0 step.1 in
    let more = letters-takes letters step.0 rest step.2 in (
      one.0 ∷ more.0,
      one.1 ∙ ap (λ (l : List ℕ). one.0 ∷ l) more.1,
      cc (one.2, more.2),
    )

letters-again : (front rest : List ℕ) → past_letters (map to_ascii_lowercase front) (front ++ rest) ≡ Some rest
letters-again [] rest = refl
letters-again (c ∷ front) rest =
    ap (option_and_then (past_letters (map to_ascii_lowercase front))) (letter-again c (front ++ rest))
    ∙ letters-again front rest

-- the same for an end of the text, which is read from its last character on
ended : (letters end start : List ℕ) → map to_ascii_lowercase end ≡ letters
    → past_letters (reverse letters) (reverse (start ++ end)) ≡ Some (reverse start)
ended letters end start is =
    ap (past_letters (reverse letters)) (reverse-append start end)
    ∙ ap (λ (l : List ℕ). past_letters l (reverse end ++ reverse start))
    (sym (ap reverse is) ∙ sym (small-reverse end))
    ∙ letters-again (reverse end) (reverse start)

-- ---- archives

-- a text that is this in reverse
turned : (text back : List ℕ) → reverse text ≡ back → text ≡ reverse back
turned text back is = sym (reverse-reverse text) ∙ ap reverse is

small-again : (front letters : List ℕ) → map to_ascii_lowercase front ≡ letters
    → map to_ascii_lowercase (reverse front) ≡ reverse letters
small-again front letters is = small-reverse front ∙ ap reverse is

tgz-takes : (text : List ℕ) → is_some (before_tgz (reverse text)) ≡ true → IsLocation text
tgz-takes text h =
    let some = some-takes _ h in
    let found = letters-takes (codes "zgt.") (reverse text) some.0 some.1 in
    archive (reverse some.0) (reverse found.0) (turned text _ found.1 ∙ reverse-append found.0 some.0)
    (tgz (small-again found.0 (codes "zgt.") found.2))

tar-takes : (text : List ℕ) → is_some (before_tar (reverse text)) ≡ true → IsLocation text
tar-takes text h =
    let some = some-takes _ h in
    let found = letters-takes (codes "rat.") (reverse text) some.0 some.1 in
    archive (reverse some.0) (reverse found.0) (turned text _ found.1 ∙ reverse-append found.0 some.0)
    (tar (small-again found.0 (codes "rat.") found.2))

-- the three parts of an end, in reverse
parts-reversed : (gz start rest : List ℕ) (c : ℕ)
    → reverse (gz ++ (c ∷ (start ++ rest))) ≡ reverse rest ++ (reverse start ++ (c ∷ reverse gz))
parts-reversed gz start rest c =
    reverse-append gz (c ∷ (start ++ rest))
    ∙ ap (λ (l : List ℕ). l ++ reverse gz) (reverse-append (c ∷ []) (start ++ rest))
    ∙ ap (λ (l : List ℕ). (l ++ (c ∷ [])) ++ reverse gz) (reverse-append start rest)
    ∙ append_assoc (reverse rest ++ reverse start) (c ∷ []) (reverse gz)
    ∙ append_assoc (reverse rest) (reverse start) (c ∷ reverse gz)

tar_gz-takes : (text : List ℕ) → is_some (before_tar_gz (reverse text)) ≡ true → IsLocation text
tar_gz-takes text h =
    let some = some-takes _ h in
    let last = first-step before_tar (option_and_then past_any (past_letters (codes "zg") (reverse text))) some.0 some.1 in
    let middle = first-step past_any (past_letters (codes "zg") (reverse text)) last.0 last.1 in
    let gz = letters-takes (codes "zg") (reverse text) middle.0 middle.1 in
    let dot = any-takes middle.0 last.0 middle.2 in
    let start = letters-takes (codes "rat.") last.0 some.0 last.2 in
    let back : reverse text ≡ gz.0 ++ (dot.0 ∷ (start.0 ++ some.0)) =
    gz.1 ∙ ap (λ (l : List ℕ). gz.0 ++ l) (dot.1 ∙ ap (λ (l : List ℕ). dot.0 ∷ l) start.1) in
    archive (reverse some.0) (reverse start.0 ++ (dot.0 ∷ reverse gz.0))
    (turned text _ back ∙ parts-reversed gz.0 start.0 some.0 dot.0)
    (tar_gz (reverse start.0) (reverse gz.0) dot.0 refl (small-again start.0 (codes "rat.") start.2) dot.2
    (small-again gz.0 (codes "zg") gz.2))

pub archive-takes : (text : List ℕ) → ends_archive text ≡ true → IsLocation text
archive-takes text h = elim (or_cases (is_some (before_tgz (reverse text)) || is_some (before_tar (reverse text)))
    (is_some (before_tar_gz (reverse text))) h) [
      | inl two ↦ elim (or_cases (is_some (before_tgz (reverse text))) (is_some (before_tar (reverse text))) two) [
        | inl is ↦ tgz-takes text is
        | inr is ↦ tar-takes text is
      ]
      | inr is ↦ tar_gz-takes text is
    ]

some-again : (o : Option (List ℕ)) (cs : List ℕ) → o ≡ Some cs → is_some o ≡ true
some-again o cs is = rw is refl

pub archive-again : (text start end : List ℕ) → text ≡ start ++ end → IsArchiveEnd end → ends_archive text ≡ true
archive-again text start end whole (tgz is) =
    or_left _ (is_some (before_tar_gz (reverse text))) (or_left _ (is_some (before_tar (reverse text)))
    (some-again _ (reverse start) (ap before_tgz (ap reverse whole) ∙ ended (codes ".tgz") end start is)))
archive-again text start end whole (tar is) =
    or_left _ (is_some (before_tar_gz (reverse text))) (or_right (is_some (before_tgz (reverse text))) _
    (some-again _ (reverse start) (ap before_tar (ap reverse whole) ∙ ended (codes ".tar") end start is)))
archive-again text start end whole (tar_gz tars gz c parts is_tar is_one is_gz) =
    or_right (is_some (before_tgz (reverse text)) || is_some (before_tar (reverse text))) _
    (some-again _ (reverse start) (ap before_tar_gz (ap reverse (whole ∙ ap (λ (l : List ℕ). start ++ l) parts
    ∙ sym (append_assoc start tars (c ∷ gz)) ∙ sym (append_assoc (start ++ tars) (c ∷ []) gz)))
    ∙ ap (λ (o : Option (List ℕ)). option_and_then before_tar (option_and_then past_any o))
    (ended (codes "gz") gz ((start ++ tars) ++ (c ∷ [])) is_gz)
    ∙ ap (λ (l : List ℕ). option_and_then before_tar (past_any l)) (reverse-append (start ++ tars) (c ∷ []))
    ∙ ap (option_and_then before_tar) (any-again c (reverse (start ++ tars)) is_one)
    ∙ ended (codes ".tar") tars start is_tar))

-- Texts with and without a star at their end.
use Rattle.std.proofs.Common.{◌≡◌, ◌∙◌, ◌==◌, ◌∷◌, ◌++◌, ◌-◌, ℕ, List, [], true, false, Decides, ap, append_assoc}
use Rattle.std.proofs.Common.{arith, codes, length, length-append, nat_eq, ne_eqb, refl, sym, take, true≢false}
use Rattle.std.proofs.lemmas.Bool.{false_from_ne_true, or_right}
use Rattle.std.proofs.lemmas.Bool.Decides.{Decides-eqb}
use Rattle.std.proofs.lemmas.List.{append_cancel_right, take_at}
use Rattle.std.proofs.lemmas.List.Folds.{list_any-append}
use Rattle.std.proofs.lemmas.Slice.Eq.{ends_is}
use Rattle.std.specs.List.{ends_with, list_any}
use Rattle.npm_texts.specs.Texts.{without_end}
use Rattle.npm_lock.specs.PatternGrammar.{is_glob_byte}
use Rattle.npm_lock.specs.Private.PatternSteps.{is_whole, stem_of}
use Rattle.npm_lock.proofs.Globs.Parts.{is_slash}

-- the text ends so
pub ends : (text end : List ℕ) → Decides (ends_with nat_eq text end) ((start : List ℕ) × (text ≡ start ++ end))
ends text end =
    let is = ends_is Decides-eqb text end (ends_with nat_eq text end) refl in
    ((λ h. (take (length text - length end) text, is.0 h)), (λ found. is.1 found.0 found.1))

pub end-gone : (start end : List ℕ) → without_end end (start ++ end) ≡ start
end-gone start end =
    let is = (ends (start ++ end) end).1 (start, refl) in
    let long = length-append start end in
    rw is (take_at start end (length (start ++ end) - length end) (omega (arith, long)))

pub end-stays : (text end : List ℕ) → ends_with nat_eq text end ≡ false → without_end end text ≡ text
end-stays text end is_not = rw is_not refl

-- ---- stars

star-glob : (start : List ℕ) → list_any is_glob_byte (start ++ codes "*") ≡ true
star-glob start =
    list_any-append is_glob_byte start (codes "*") ∙ or_right (list_any is_glob_byte start) true refl

-- a text without such bytes has no star at its end
pub no-star : (text : List ℕ) → list_any is_glob_byte text ≡ false → ends_with nat_eq text (codes "*") ≡ false
no-star text none = false_from_ne_true (ends_with nat_eq text (codes "*")) (λ is.
    let found = (ends text (codes "*")).0 is in
    cc (none, ap (list_any is_glob_byte) found.1, star-glob found.0))

pub two-stars : (start : List ℕ) → start ++ codes "**" ≡ (start ++ codes "*") ++ codes "*"
two-stars start = sym (append_assoc start (codes "*") (codes "*"))

-- a star after such a text is not two
pub no-stars : (text : List ℕ) → list_any is_glob_byte text ≡ false
    → ends_with nat_eq (text ++ codes "*") (codes "**") ≡ false
no-stars text none = false_from_ne_true (ends_with nat_eq (text ++ codes "*") (codes "**")) (λ is.
    let found = (ends (text ++ codes "*") (codes "**")).0 is in
    let same : text ≡ found.0 ++ codes "*" =
    append_cancel_right text (found.0 ++ codes "*") (codes "*") (found.1 ∙ two-stars found.0) in
    cc (none, ap (list_any is_glob_byte) same, star-glob found.0))

pub no-stars_alone : (text : List ℕ) → list_any is_glob_byte text ≡ false → ends_with nat_eq text (codes "**") ≡ false
no-stars_alone text none = false_from_ne_true (ends_with nat_eq text (codes "**")) (λ is.
    let found = (ends text (codes "**")).0 is in
    cc (none, ap (list_any is_glob_byte) (found.1 ∙ two-stars found.0), star-glob (found.0 ++ codes "*")))

-- ---- stems

pub stem-plain : (text : List ℕ) → ends_with nat_eq text (codes "*") ≡ false → stem_of text ≡ text
stem-plain text is_not =
    ap (without_end (codes "*")) (end-stays text (codes "*") is_not) ∙ end-stays text (codes "*") is_not

pub stem-star : (stem : List ℕ) → ends_with nat_eq stem (codes "*") ≡ false → stem_of (stem ++ codes "*") ≡ stem
stem-star stem is_not =
    ap (without_end (codes "*")) (end-gone stem (codes "*")) ∙ end-stays stem (codes "*") is_not

pub stem-stars : (stem : List ℕ) → stem_of (stem ++ codes "**") ≡ stem
stem-stars stem =
    ap (λ (text : List ℕ). without_end (codes "*") (without_end (codes "*") text)) (two-stars stem)
    ∙ ap (without_end (codes "*")) (end-gone (stem ++ codes "*") (codes "*")) ∙ end-gone stem (codes "*")

-- ---- a text that is empty or ends with a `/`

-- empty, or with a `/` at its end
pub data Whole (text : List ℕ) : Type 0 where
  empty : text ≡ [] → Whole text
  closed : (start : List ℕ) → text ≡ start ++ (47 ∷ []) → Whole text

pub whole-cases : (text : List ℕ) → is_whole text ≡ true → Whole text
whole-cases [] h = empty refl
whole-cases (b ∷ text) h =
    let some : (length (b ∷ text) == 0) ≡ false = ne_eqb (length (b ∷ text)) 0 (omega arith) in
    let found = (ends (b ∷ text) (codes "/")).0 (rw some at h) in
    closed found.0 found.1

whole-closed : (start : List ℕ) → is_whole (start ++ (47 ∷ [])) ≡ true
whole-closed start =
    or_right (length (start ++ (47 ∷ [])) == 0) _ ((ends (start ++ (47 ∷ [])) (codes "/")).1 (start, refl))

pub whole-is : (text : List ℕ) → Whole text → is_whole text ≡ true
whole-is text (empty is) = ap is_whole is
whole-is text (closed start is) = ap is_whole is ∙ whole-closed start

-- the last byte, or this one
abbrev last_from : ℕ → List ℕ → ℕ
last_from b [] = b
last_from b (c ∷ text) = last_from c text

last-append : (a b : ℕ) (start rest : List ℕ) → last_from a (start ++ (b ∷ rest)) ≡ last_from b rest
last-append a b [] rest = refl
last-append a b (c ∷ start) rest = last-append c b start rest

closed-from : (b : ℕ) (text : List ℕ) → last_from b text ≡ 47 → (start : List ℕ) × (b ∷ text ≡ start ++ (47 ∷ []))
closed-from b [] is = ([], ap (λ (c : ℕ). c ∷ []) is)
closed-from b (c ∷ text) is =
    let found = closed-from c text is in
    (b ∷ found.0, ap (λ (l : List ℕ). b ∷ l) found.1)

whole-last : (text : List ℕ) → last_from 47 text ≡ 47 → Whole text
whole-last [] is = empty refl
whole-last (b ∷ text) is = let found = closed-from b text is in closed found.0 found.1

last-whole : (text : List ℕ) → Whole text → last_from 47 text ≡ 47
last-whole text (empty is) = ap (last_from 47) is
last-whole text (closed start is) = ap (last_from 47) is ∙ last-append 47 47 start []

-- after a part and its `/` the rest decides
pub whole-before : (part rest : List ℕ) → Whole rest → Whole (part ++ (47 ∷ rest))
whole-before part rest whole = whole-last (part ++ (47 ∷ rest)) (last-append 47 47 part rest ∙ last-whole rest whole)

pub whole-after : (part rest : List ℕ) → Whole (part ++ (47 ∷ rest)) → Whole rest
whole-after part rest whole =
    whole-last rest (sym (last-append 47 47 part rest) ∙ last-whole (part ++ (47 ∷ rest)) whole)

-- a text without `/` that is so is empty
pub whole-part : (part : List ℕ) → list_any is_slash part ≡ false → Whole part → part ≡ []
whole-part part none (empty is) = is
whole-part part none (closed start is) = absurd (true≢false (
    sym (ap (list_any is_slash) is ∙ list_any-append is_slash start (47 ∷ [])
    ∙ or_right (list_any is_slash start) true refl) ∙ none))

-- Hyphen ranges: the reader reads exactly these texts.
use native.Mathlib.Omega.{arith}
use Rattle.std.proofs.Common.{◌≡◌, ℕ, true, List, [], ◌∷◌, ◌++◌, Option, Some, None, refl, sym, ap, ◌∙◌, inl, inr}
use Rattle.std.proofs.Common.{subst, append_assoc}
use Rattle.std.proofs.lemmas.Bool.{cases_Bool, eqb-true}
use Rattle.std.proofs.lemmas.Option.{same_Some}
use Rattle.std.specs.Prelude.{◌==◌}
use Rattle.semver_texts.specs.Characters.{AreBlanks, BeginsWithNo, hyphen, is_blank}
use Rattle.semver_sets.specs.Comparator.{Comparator}
use Rattle.semver_texts.specs.Characters.{IsCleanEnd}
use Rattle.semver_sets.specs.HyphenRanges.{IsHyphenText, IsLeftText, hyphen_comparator}
use Rattle.semver_sets.specs.PartialText.{IsPartialText, Partial}
use Rattle.semver_texts.specs.Reading.{begins, prefix_of, rest_of}
use Rattle.semver_sets.specs.Private.WordReading.{ReadPartial, Word, or_else, read_hyphen, read_partial, read_right}
use Rattle.semver_sets.specs.Private.WordReading.{right_at, said_hyphen, with_left}
use Rattle.semver_sets.proofs.Texts.CleanEnds.{blanks-clean, true-clean, up_to_clean-takes}
use Rattle.semver_sets.proofs.Words.PartialReading.{partial-again, partial-no, partial-takes, partial-unblanked}
use Rattle.semver_texts.specs.Lemmas.Public.{begins-append, begins-with, prefix_of-all, prefix_of-begins}
use Rattle.semver_texts.specs.Lemmas.Public.{prefix_of-rest_of, rest_of-again, rest_of-all, with-begins}

-- ---- from the blanks before a hyphen on

-- blanks, a hyphen, blanks and a partial with a clean end after it, at the start of a text
record TakesRight (text : List ℕ) (right : Partial) (rest : List ℕ) : Type 0 where
  pub left_blanks : List ℕ
  pub right_blanks : List ℕ
  pub right_text : List ℕ
  pub whole : text ≡ left_blanks ++ (hyphen ∷ (right_blanks ++ (right_text ++ rest)))
  pub left_blank : AreBlanks left_blanks
  pub right_blank : AreBlanks right_blanks
  pub read : IsPartialText right_text right
  pub clean : IsCleanEnd rest

-- all the blanks at the start of a text that begins with one
blanks-taken : (text : List ℕ) → begins is_blank text ≡ true → AreBlanks (prefix_of is_blank text)
blanks-taken text h = grind (arith, prefix_of-begins, begins-with, prefix_of-all)

-- the text that is read from the hyphen on
right_at-takes : (text behind : List ℕ) (p : Partial) (rest : List ℕ) → begins is_blank text ≡ true
    → rest_of is_blank text ≡ behind → right_at behind ≡ Some (p, rest) → TakesRight text p rest
right_at-takes text [] p rest some follows h = cc h
right_at-takes text (b ∷ behind) p rest some follows h = elim (cases_Bool (b == hyphen)) [
  | inr other ↦ cc (rw other at h)
  | inl here ↦ elim (cases_Bool (begins is_blank behind)) [
    | inr none ↦ cc (rw (here, none) at h)
    | inl blank ↦
        let u = up_to_clean-takes (read_partial (rest_of is_blank behind)) (p, rest) (rw (here, blank) at h) in
        grind (
          arith,
          partial-takes (rest_of is_blank behind) p rest u.0,
          prefix_of-rest_of is_blank behind,
          prefix_of-rest_of is_blank text,
          eqb-true b hyphen here,
          blanks-taken text some,
          blanks-taken behind blank,
        )
  ]
]

-- the text before the rest is such a right side
right-takes : (text : List ℕ) (p : Partial) (rest : List ℕ) → read_right text ≡ Some (p, rest) → TakesRight text p rest
unfolding read_right
right-takes text p rest h = grind (arith, cases_Bool, right_at-takes)

-- such a right side is read
right-again : (left_blanks right_blanks right_text rest : List ℕ) (p : Partial) → AreBlanks left_blanks
    → AreBlanks right_blanks → IsPartialText right_text p → IsCleanEnd rest
    → read_right (left_blanks ++ (hyphen ∷ (right_blanks ++ (right_text ++ rest)))) ≡ Some (p, rest)
unfolding read_right
right-again left_blanks right_blanks right_text rest p left right h clean =
    let behind = right_blanks ++ (right_text ++ rest) in
    grind (
      arith,
      with-begins,
      begins-append,
      rest_of-again is_blank left_blanks (hyphen ∷ behind) left.all refl,
      rest_of-all is_blank right_blanks (right_text ++ rest) right.all,
      partial-unblanked (right_text ++ rest) (p, rest) (partial-again right_text rest p h clean),
      partial-again right_text rest p h clean,
      true-clean rest clean,
    )

-- a text that begins with a partial begins with no hyphen range without a left side
right_at-none : (text : List ℕ) → BeginsWithNo (λ b. b == hyphen) text → right_at text ≡ None
right_at-none text h1 = grind arith

-- and none is read
pub right-none : (text : List ℕ) (r : Partial × List ℕ) → read_partial text ≡ Some r → read_right text ≡ None
unfolding read_right
right-none text r h =
    grind (
      arith,
      right_at-none (rest_of is_blank text) (partial-no hyphen (rest_of is_blank text) r refl
          (partial-unblanked text r h)),
    )

-- ---- hyphen ranges

-- a hyphen range with a clean end after it, at the start of a text
pub record TakesHyphen (text : List ℕ) (comparator : Option Comparator) (rest : List ℕ) : Type 0 where
  pub taken : List ℕ
  pub whole : text ≡ taken ++ rest
  pub read : IsHyphenText taken comparator
  pub clean : IsCleanEnd rest

-- a left side or none, and the rest
hyphen-taken : (left_text text : List ℕ) (left : Option Partial) (read : ReadPartial) (c : Option Comparator)
    (rest : List ℕ) → IsLeftText left_text left → read_right text ≡ read → said_hyphen left read ≡ Some (c, rest)
    → TakesHyphen (left_text ++ text) c rest
hyphen-taken left_text text left None c rest h r e = cc e
hyphen-taken left_text text left (Some p) c rest h r e =
    let t = right-takes text p.0 p.1 r in
    let taken = left_text ++ (t.left_blanks ++ (hyphen ∷ (t.right_blanks ++ t.right_text))) in
    let whole : left_text ++ text ≡ taken ++ p.1 = ap (λ (l : List ℕ). left_text ++ l) t.whole ∙ simp append_assoc in
    let same = same_Some (Some (hyphen_comparator left p.0), p.1) (c, rest) e in
    subst (λ (w : Word). TakesHyphen (left_text ++ text) w.0 w.1) same (record {
      taken = taken;
      whole = whole;
      read = grind arith;
      clean = t.clean;
    })

-- with a left side
hyphen_left-takes : (text : List ℕ) (read : ReadPartial) (c : Option Comparator) (rest : List ℕ)
    → read_partial text ≡ read
    → with_left read ≡ Some (c, rest) → TakesHyphen text c rest
hyphen_left-takes text None c rest r h = cc h
hyphen_left-takes text (Some left) c rest r h =
    let t = partial-takes text left.0 left.1 r in
    grind (arith, hyphen-taken t.taken left.1 (Some left.0) (read_right left.1) c rest t.read refl h)

-- with one or without
either-takes : (text : List ℕ) (right : ReadPartial) (c : Option Comparator) (rest : List ℕ) → read_right text ≡ right
    → or_else (said_hyphen None right) (with_left (read_partial text)) ≡ Some (c, rest) → TakesHyphen text c rest
either-takes text None c rest r h = hyphen_left-takes text (read_partial text) c rest refl h
either-takes text (Some right) c rest r h = hyphen-taken [] text None (Some right) c rest refl r h

-- the text before the rest is a hyphen range with a clean end
pub hyphen-takes : (text : List ℕ) (c : Option Comparator) (rest : List ℕ) → read_hyphen text ≡ Some (c, rest)
    → TakesHyphen text c rest
unfolding read_hyphen
hyphen-takes text c rest h = either-takes text (read_right text) c rest refl h

-- a left side or none, and the rest, are read
hyphen-read : (left_text behind rest : List ℕ) (left : Option Partial) (right : Partial) → IsLeftText left_text left
    → IsCleanEnd behind → read_right behind ≡ Some (right, rest)
    → read_hyphen (left_text ++ behind) ≡ Some (Some (hyphen_comparator left right), rest)
unfolding read_hyphen
hyphen-read left_text behind rest left right h1 h2 h3 = grind (arith, partial-again, right-none)

-- a hyphen range with a clean end is read
pub hyphen-again : (text rest : List ℕ) (c : Option Comparator) → IsHyphenText text c → IsCleanEnd rest
    → read_hyphen (text ++ rest) ≡ Some (c, rest)
hyphen-again text rest c h clean =
    let from_hyphen = hyphen ∷ (h.right_blanks ++ (h.right_text ++ rest)) in
    let behind = h.left_blanks ++ from_hyphen in
    let whole : text ++ rest ≡ h.left_text ++ behind = ap (λ (l : List ℕ). l ++ rest) h.whole ∙ simp append_assoc in
    let r = right-again h.left_blanks h.right_blanks h.right_text rest h.right
    h.left_blank h.right_blank h.right_read clean in
    let clean_left = blanks-clean h.left_blanks from_hyphen h.left_blank.some in
    rw (whole, h.says) (hyphen-read h.left_text behind rest h.left h.right h.left_read clean_left r)

-- a hyphen range is one comparator
pub one_hyphen_range : (text : List ℕ) (c d : Option Comparator) → IsHyphenText text c → IsHyphenText text d → c ≡ d
one_hyphen_range text c d h g =
    ap (λ (w : Word). w.0) (same_Some (c, []) (d, []) (sym (hyphen-again text [] c h tt) ∙ hyphen-again text [] d g tt))

-- nothing after a left side is no hyphen range
pub left-ends : (p : Partial) → with_left (Some (p, [])) ≡ None
unfolding read_right
left-ends p = refl

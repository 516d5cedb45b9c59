-- The mark and the blanks before an unmarked text.
use Rattle.std.proofs.Common.{◌≡◌, ◌<◌, ℕ, Bool, List, [], ◌∷◌, ◌++◌, arith, length}
use Rattle.std.proofs.Common.{append_assoc}
use Rattle.semver_texts.specs.Characters.{BeginsWithNo, is_blank, mark_of}
use Rattle.semver_texts.specs.VersionText.{IsMarked}
use Rattle.semver_texts.specs.Reading.{prefix_of, rest_of, skip_one}
use Rattle.semver_texts.specs.Lemmas.Texts.Prefixes.{prefix_of-all, prefix_of-rest_of, rest_of-again}

-- a text is its mark and the rest
pub mark-skip : (is_mark : ℕ → Bool) (text : List ℕ) → text ≡ mark_of is_mark text ++ skip_one is_mark text
unfolding skip_one
mark-skip is_mark text = grind arith

-- and nothing else follows it
pub skip_one-mark : (is_mark : ℕ → Bool) (text body : List ℕ) → text ≡ mark_of is_mark text ++ body
    → skip_one is_mark text ≡ body
unfolding skip_one
skip_one-mark is_mark text body h = grind arith

-- more after a text changes nothing of its mark
pub mark_of-append : (is_mark : ℕ → Bool) (text rest : List ℕ) → 0 < length text
    → mark_of is_mark (text ++ rest) ≡ mark_of is_mark text
mark_of-append is_mark text rest some = grind arith

skip_one-append : (is_mark : ℕ → Bool) (text rest : List ℕ) → 0 < length text
    → skip_one is_mark (text ++ rest) ≡ skip_one is_mark text ++ rest
unfolding skip_one
skip_one-append is_mark text rest some = grind arith

-- a marked text at the start of a text
pub record TakesMarked (is_mark : ℕ → Bool) (Is : List ℕ → Type 0) (text rest : List ℕ) : Type 0 where
  pub taken : List ℕ
  pub whole : text ≡ taken ++ rest
  pub read : IsMarked is_mark Is taken

some-longer : (xs ys zs : List ℕ) → 0 < length zs → 0 < length (xs ++ (ys ++ zs))
some-longer [] [] zs h = h
some-longer [] (y ∷ ys) zs h = omega arith
some-longer (x ∷ xs) ys zs h = omega arith

-- what follows the mark and the blanks, with its mark and its blanks
pub marked-taken : (is_mark : ℕ → Bool) (Is : List ℕ → Type 0) (text taken rest : List ℕ)
    → rest_of is_blank (skip_one is_mark text) ≡ taken ++ rest → 0 < length taken → Is taken
    → TakesMarked is_mark Is text rest
marked-taken is_mark Is text taken rest follows some read = grind (
  arith,
  prefix_of-rest_of is_blank (skip_one is_mark text),
  mark-skip is_mark text,
  mark_of-append is_mark (mark_of is_mark text ++ (prefix_of is_blank (skip_one is_mark text) ++ taken)) rest,
  prefix_of-all is_blank (skip_one is_mark text),
  append_assoc,
)

-- after the mark and the blanks of a marked text, with more after it
pub marked-follows : (is_mark : ℕ → Bool) (Is : List ℕ → Type 0) (text more : List ℕ) (h : IsMarked is_mark Is text)
    → 0 < length h.unmarked → BeginsWithNo is_blank (h.unmarked ++ more)
    → rest_of is_blank (skip_one is_mark (text ++ more)) ≡ h.unmarked ++ more
marked-follows is_mark Is text more h some ends =
    grind (arith, some-longer, skip_one-append, skip_one-mark, append_assoc, rest_of-again)

-- A text up to its first byte of a kind, and the rest after it.
use Rattle.std.proofs.Common.{◌≡◌, ◌∙◌, ◌+◌, ◌==◌, ◌∷◌, ◌++◌, ◌&&◌, ℕ, List, [], Bool, true, false, ap, append_assoc, arith, drop}
use Rattle.std.proofs.Common.{inl, inr, length, length-append, ne_eqb, not, refl, sym, take, Decides}
use Rattle.std.proofs.lemmas.Bool.{and_parts, cases_Bool, or_from, or_parts}
use Rattle.std.proofs.lemmas.List.{drop_at, take_all, take_at}
use Rattle.std.specs.List.{after_first, before_first, list_all, list_any, position_or_len}
use Rattle.npm_texts.specs.SpecGrammar.{AreSome}

-- no byte passes the test, or there is a first that does
pub data Split (test : ℕ → Bool) (text : List ℕ) : Type 0 where
  none : list_any test text ≡ false → Split test text
  first : (before : List ℕ) (b : ℕ) (after : List ℕ) → text ≡ before ++ (b ∷ after) → list_any test before ≡ false
      → test b ≡ true → Split test text

later : (test : ℕ → Bool) (b : ℕ) (text : List ℕ) → test b ≡ false → Split test text → Split test (b ∷ text)
later test b text fails (none absent) = none (or_from (test b) (list_any test text) fails absent)
later test b text fails (first before c after whole absent passes) =
    first (b ∷ before) c after (ap (λ (l : List ℕ). b ∷ l) whole)
    (or_from (test b) (list_any test before) fails absent) passes

here_or_later : (test : ℕ → Bool) (b : ℕ) (text : List ℕ) → Split test text → Split test (b ∷ text)
here_or_later test b text s = elim (cases_Bool (test b)) [
  | inl passes ↦ first [] b text refl refl passes
  | inr fails ↦ later test b text fails s
]

pub split : (test : ℕ → Bool) (text : List ℕ) → Split test text
split test [] = none refl
split test (b ∷ text) = here_or_later test b text (split test text)

-- ---- no byte passes

pub position-none : (test : ℕ → Bool) (text : List ℕ) → list_any test text ≡ false
    → position_or_len test text ≡ length text
position-none test [] absent = refl
position-none test (b ∷ text) absent =
    let parts = or_parts (test b) (list_any test text) absent in
    rw parts.0 (omega (arith, position-none test text parts.1))

pub before-none : (test : ℕ → Bool) (text : List ℕ) → list_any test text ≡ false → before_first test text ≡ text
before-none test text absent =
    ap (λ (n : ℕ). take n text) (position-none test text absent) ∙ take_all (length text) text (omega arith)

-- ---- one is the first that does

module _ (test : ℕ → Bool) (b : ℕ) (after : List ℕ) (passes : test b ≡ true) where
  position-first : (before : List ℕ) → list_any test before ≡ false
      → position_or_len test (before ++ (b ∷ after)) ≡ length before
  position-first [] absent = rw passes refl
  position-first (c ∷ before) absent =
      let parts = or_parts (test c) (list_any test before) absent in
      rw parts.0 (omega (arith, position-first before parts.1))

  module _ (before : List ℕ) (absent : list_any test before ≡ false) where
    pub position-inside : (position_or_len test (before ++ (b ∷ after)) == length (before ++ (b ∷ after))) ≡ false
    position-inside =
        let at = position-first before absent in
        let whole = length-append before (b ∷ after) in
        ne_eqb _ _ (omega (arith, at, whole))

    pub before-first : before_first test (before ++ (b ∷ after)) ≡ before
    before-first =
        ap (λ (n : ℕ). take n (before ++ (b ∷ after))) (position-first before absent)
        ∙ take_at before (b ∷ after) (length before) refl

    pub after-first : after_first test (before ++ (b ∷ after)) ≡ after
    after-first =
        ap (λ (n : ℕ). drop (n + 1) (before ++ (b ∷ after))) (position-first before absent)
        ∙ ap (drop (length before + 1)) (sym (append_assoc before (b ∷ []) after))
        ∙ drop_at (before ++ (b ∷ [])) after (length before + 1) (length-append before (b ∷ []))

-- ---- all bytes pass

-- no byte passes both tests
pub all-none : (test other : ℕ → Bool) → ((b : ℕ) → test b ≡ true → other b ≡ false) → (text : List ℕ)
    → list_all test text ≡ true → list_any other text ≡ false
all-none test other apart [] all = refl
all-none test other apart (b ∷ text) all =
    let parts = and_parts (test b) (list_all test text) all in
    or_from (other b) (list_any other text) (apart b parts.0) (all-none test other apart text parts.1)

pub some-Decides : (test : ℕ → Bool) (text : List ℕ)
    → Decides (not (length text == 0) && list_all test text) (AreSome test text)
some-Decides test [] = ((λ h. cc h), (λ are. absurd (are.0 refl)))
some-Decides test (b ∷ text) =
    let some : (length (b ∷ text) == 0) ≡ false = ne_eqb (length (b ∷ text)) 0 (omega arith) in
    ((λ h. ((λ is. cc is), rw some at h)), (λ are. rw some are.1))

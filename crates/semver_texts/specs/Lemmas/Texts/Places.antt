-- The longest prefix whose characters all pass, from place to place, as a loop goes over a text.
use Rattle.std.proofs.Common.{◌≡◌, ◌+◌, ◌-◌, ◌<◌, ◌≤◌, ℕ, Bool, true, false, List, [], ◌∷◌, ◌++◌, length, get_or, take}
use Rattle.std.proofs.Common.{drop, refl, sym, ap, ◌∙◌, append-nil, append_assoc, suc, zero, arith}
use Rattle.std.proofs.lemmas.List.{drop_all, drop_more, take_more, take_rest}
use Rattle.semver_texts.specs.Reading.{rest_of, prefix_of, skip_one}

-- a character that passes is gone over
pub rest_of-step : (test : ℕ → Bool) (s : List ℕ) (i : ℕ) → i < length s → test (get_or s i 0) ≡ true
    → rest_of test (drop i s) ≡ rest_of test (drop (i + 1) s)
unfolding rest_of
rest_of-step test s i h passes = ap (rest_of test) (drop_more s i 0 h) ∙ rw passes refl

pub prefix_of-step : (test : ℕ → Bool) (s : List ℕ) (i : ℕ) → i < length s → test (get_or s i 0) ≡ true
    → prefix_of test (drop i s) ≡ get_or s i 0 ∷ prefix_of test (drop (i + 1) s)
unfolding prefix_of
prefix_of-step test s i h passes = ap (prefix_of test) (drop_more s i 0 h) ∙ rw passes refl

-- one that doesn't ends it
pub rest_of-stop : (test : ℕ → Bool) (s : List ℕ) (i : ℕ) → i < length s → test (get_or s i 0) ≡ false
    → rest_of test (drop i s) ≡ drop i s
unfolding rest_of
rest_of-stop test s i h stops = ap (rest_of test) (drop_more s i 0 h) ∙ rw stops (sym (drop_more s i 0 h))

pub prefix_of-stop : (test : ℕ → Bool) (s : List ℕ) (i : ℕ) → i < length s → test (get_or s i 0) ≡ false
    → prefix_of test (drop i s) ≡ []
unfolding prefix_of
prefix_of-stop test s i h stops = ap (prefix_of test) (drop_more s i 0 h) ∙ rw stops refl

-- and so does the end of the text
pub rest_of-end : (test : ℕ → Bool) (s : List ℕ) (i : ℕ) → length s ≤ i → rest_of test (drop i s) ≡ drop i s
unfolding rest_of
rest_of-end test s i h = rw (drop_all i s h) refl

pub prefix_of-end : (test : ℕ → Bool) (s : List ℕ) (i : ℕ) → length s ≤ i → prefix_of test (drop i s) ≡ []
unfolding prefix_of
prefix_of-end test s i h = rw (drop_all i s h) refl

-- a mark at the start is skipped
pub skip_one-first : (test : ℕ → Bool) (s : List ℕ) → 1 ≤ length s → test (get_or s 0 0) ≡ true
    → take (length s - 1) (drop 1 s) ≡ skip_one test s
unfolding skip_one
skip_one-first test [] some passes = absurd (omega arith)
skip_one-first test (b ∷ s) some passes = rw passes (take_rest (b ∷ s) 1)

-- and nothing where there is none
pub skip_one-empty : (test : ℕ → Bool) (s : List ℕ) → length s < 1 → s ≡ skip_one test s
unfolding skip_one
skip_one-empty test s none = grind arith

pub skip_one-other : (test : ℕ → Bool) (s : List ℕ) → 1 ≤ length s → test (get_or s 0 0) ≡ false → s ≡ skip_one test s
unfolding skip_one
skip_one-other test s some stops = grind arith

-- A loop has gone over the first i characters, which all pass.
pub record Over (test : ℕ → Bool) (s : List ℕ) (i : ℕ) : Type 0 where
  pub prefix : prefix_of test s ≡ take i s ++ prefix_of test (drop i s)
  pub rest : rest_of test s ≡ rest_of test (drop i s)

pub over-step : (test : ℕ → Bool) (s : List ℕ) (i : ℕ) → i < length s → test (get_or s i 0) ≡ true → Over test s i
    → Over test s (i + 1)
over-step test s i h passes over =
    grind (arith, prefix_of-step test s i h passes, rest_of-step test s i h passes, take_more s i 0 h, append_assoc)

-- where it ends, it has gone over the longest prefix
pub record Through (test : ℕ → Bool) (s : List ℕ) (i : ℕ) : Type 0 where
  pub prefix : prefix_of test s ≡ take i s
  pub rest : rest_of test s ≡ drop i s

pub over-stop : (test : ℕ → Bool) (s : List ℕ) (i : ℕ) → i < length s → test (get_or s i 0) ≡ false → Over test s i
    → Through test s i
over-stop test s i h stops over = grind (arith, prefix_of-stop, append-nil, rest_of-stop)

pub over-end : (test : ℕ → Bool) (s : List ℕ) (i : ℕ) → length s ≤ i → Over test s i → Through test s i
over-end test s i h over = grind (arith, prefix_of-end, append-nil, rest_of-end)

-- ---- the first place that does not pass, as a search finds it

rest_of-far : (test : ℕ → Bool) (s : List ℕ) (n : ℕ) → n ≤ length s
    → ((k : ℕ) → k < n → test (get_or s k 0) ≡ true) → rest_of test s ≡ rest_of test (drop n s)
rest_of-far test s zero h all = refl
rest_of-far test s (suc n) h all = grind (arith, rest_of-far test s n, rest_of-step)

-- all before it pass, and it does not
pub rest_of-first : (test : ℕ → Bool) (s : List ℕ) (n : ℕ) → n < length s
    → ((k : ℕ) → k < n → test (get_or s k 0) ≡ true) → test (get_or s n 0) ≡ false → rest_of test s ≡ drop n s
rest_of-first test s n h all stops = rest_of-far test s n (omega arith) all ∙ rest_of-stop test s n h stops

-- all pass
pub rest_of-each : (test : ℕ → Bool) (s : List ℕ) → ((k : ℕ) → k < length s → test (get_or s k 0) ≡ true)
    → rest_of test s ≡ drop (length s) s
rest_of-each test s all = rest_of-far test s (length s) (omega arith) all ∙ rest_of-end test s (length s) (omega arith)

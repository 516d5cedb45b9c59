-- A text that is parted at the last of some character.
use Rattle.std.proofs.Common.{◌≡◌, ◌≢◌, ◌+◌, ◌-◌, ◌<◌, ◌∙◌, ℕ, zero, suc, List, Option, Some, None, ap, arith, drop}
use Rattle.std.proofs.Common.{eq-eqb, get_or, get_or-drop, inl, inr, length, length-drop, ne_eqb, refl, sym, take}
use Rattle.std.proofs.lemmas.Bool.{cases_eq, cond-false, cond-true}
use Rattle.std.proofs.lemmas.Str.{len_utf8_ascii}
use Rattle.std.proofs.lemmas.Str.Pattern.{NoCharPasses-char}
use Rattle.std.specs.Option.{MatchOption}
use Rattle.std.specs.Path.{rfind_below, rsplit_once}
use Rattle.std.specs.Prelude.{option_map}
use Rattle.std.specs.Str.Pattern.{RFindsChar, SplitsAroundMatch}
use denote.Ref.{Bor}

no_last : (c : ℕ) (text : List ℕ) (n : ℕ) → ((i : ℕ) → i < n → get_or text i 0 ≢ c) → rfind_below c text n ≡ None
no_last c text zero none = refl
no_last c text (suc n) none = cond-false _ _ _ (ne_eqb _ c (none n (omega arith)))
    ∙ no_last c text n (λ i small. none i (omega arith))

a_last : (c : ℕ) (text : List ℕ) (k n : ℕ) → k < n → get_or text k 0 ≡ c
    → ((i : ℕ) → k < i → i < n → get_or text i 0 ≢ c) → rfind_below c text n ≡ Some k
a_last c text k zero small is later = absurd (omega arith)
a_last c text k (suc n) small is later = elim (cases_eq k n) [
  | inl same ↦ cond-true _ _ _ (eq-eqb _ c (ap (λ j. get_or text j 0) (sym same) ∙ is)) ∙ ap (λ j. Some j) (sym same)
  | inr other ↦ cond-false _ _ _ (ne_eqb _ c (later n (omega arith) (omega arith)))
      ∙ a_last c text k n (omega arith) is (λ i more less. later i more (omega arith))
]

-- the clause of `rsplit_once`
pub last_parts : (c : ℕ) (text : List ℕ) (r : Option (Bor (List ℕ) × Bor (List ℕ)))
    → MatchOption r (RFindsChar c text None) (λ x. SplitsAroundMatch (RFindsChar c) text x.0.now x.1.now) → c < 128
    → option_map (λ x. (x.0.now, x.1.now)) r ≡ rsplit_once c text
unfolding rsplit_once
last_parts c text None is small = sym (ap (option_map (λ i. (take i text, drop (i + 1) text)))
    (no_last c text (length text) (λ i less. NoCharPasses-char c text i is small less)))
last_parts c text (Some x) is small =
    let i = is.0 in
    let j = is.1 in
    let next : j ≡ i + 1 = omega (arith, is.2.1.ends, len_utf8_ascii c small) in
    let later : (k : ℕ) → i < k → k < length text → get_or text k 0 ≢ c = λ k more less same.
    let back : j + (k - j) ≡ k = omega arith in
    NoCharPasses-char c (drop j text) (k - j) is.2.0 small (omega (arith, length-drop j text))
    (get_or-drop j text (k - j) 0 ∙ ap (λ n. get_or text n 0) back ∙ same) in
    let found = a_last c text i (length text) (omega (arith, is.7)) (is.2.1.byte small) later in
    let second = is.4 ∙ ap (λ n. drop n text) next in
    (λ t. Some (is.3 t, second t)) ∙ sym (ap (option_map (λ k. (take k text, drop (k + 1) text))) found)

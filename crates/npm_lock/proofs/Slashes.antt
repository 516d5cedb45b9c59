-- A text that begins or ends with another, and one without the slashes at its start or at its end.
use Rattle.std.proofs.Common.{◌≡◌, ◌≢◌, ◌==◌, ◌∙◌, ◌-◌, ◌<◌, ◌++◌, ℕ, List, [], ◌∷◌, Bool, true, false, Option, Some, None, ap}
use Rattle.std.proofs.Common.{arith, codes, drop, eqb→eq, if◌then◌else◌, length, refl, sym, take}
use Rattle.std.proofs.lemmas.Bool.Decides.{Decides-eqb}
use Rattle.std.proofs.lemmas.List.{length-append, reverse-append, reverse-reverse}
use Rattle.std.proofs.lemmas.Slice.Eq.{ends_is, starts_is}
use Rattle.std.specs.List.{ends_with, starts_with}
use Rattle.std.specs.Prelude.{nat_eq, reverse}
use Rattle.npm_texts.specs.Texts.{rest_after}
use Rattle.npm_lock.specs.Tarballs.{after_slashes, before_slashes, front_of}

-- ---- texts that begin or end so

pub begins : (start text rest : List ℕ) → rest_after start text ≡ Some rest → text ≡ start ++ rest
begins start text rest is = at (starts_with nat_eq text start) refl is where
  at : (b : Bool) → b ≡ starts_with nat_eq text start
      → (if b then Some (drop (length start) text) else None) ≡ Some rest → text ≡ start ++ rest
  at true same found =
      let left : drop (length start) text ≡ rest = cc found in
      (starts_is Decides-eqb text start true same).0 refl ∙ ap (λ r. start ++ r) left
  at false same found = cc found

pub begins_not : (start text : List ℕ) → rest_after start text ≡ None → (rest : List ℕ) → text ≢ start ++ rest
begins_not start text is = at (starts_with nat_eq text start) refl is where
  at : (b : Bool) → b ≡ starts_with nat_eq text start
      → (if b then Some (drop (length start) text) else None) ≡ None → (rest : List ℕ) → text ≢ start ++ rest
  at true same none = cc none
  at false same none = λ rest e. cc ((starts_is Decides-eqb text start false same).1 rest e)

pub ends : (end text front : List ℕ) → front_of end text ≡ Some front → text ≡ front ++ end
ends end text front is = at (ends_with nat_eq text end) refl is where
  at : (b : Bool) → b ≡ ends_with nat_eq text end
      → (if b then Some (if b then take (length text - length end) text else text) else None) ≡ Some front
      → text ≡ front ++ end
  at true same found =
      let left : take (length text - length end) text ≡ front = cc found in
      (ends_is Decides-eqb text end true same).0 refl ∙ ap (λ f. f ++ end) left
  at false same found = cc found

pub ends_not : (end text : List ℕ) → front_of end text ≡ None → (front : List ℕ) → text ≢ front ++ end
ends_not end text is = at (ends_with nat_eq text end) refl is where
  at : (b : Bool) → b ≡ ends_with nat_eq text end
      → (if b then Some (if b then take (length text - length end) text else text) else None) ≡ None
      → (front : List ℕ) → text ≢ front ++ end
  at true same none = cc none
  at false same none = λ front e. cc ((ends_is Decides-eqb text end false same).1 front e)

-- ---- slashes at the start

pub first_gone : (text rest : List ℕ) → rest_after (codes "/") text ≡ Some rest → after_slashes rest ≡ after_slashes text
first_gone text rest is = let whole = begins (codes "/") text rest is in rw whole refl

stays : (text : List ℕ) → ((rest : List ℕ) → text ≢ 47 ∷ rest) → after_slashes text ≡ text
stays [] none = refl
stays (b ∷ text) none = at (b == 47) refl where
  at : (x : Bool) → x ≡ (b == 47) → (if x then after_slashes text else b ∷ text) ≡ b ∷ text
  at false same = refl
  at true same = absurd (none text (ap (λ x. x ∷ text) (eqb→eq b 47 (rw (← same) tt))))

pub none_first : (text : List ℕ) → rest_after (codes "/") text ≡ None → after_slashes text ≡ text
none_first text is = stays text (begins_not (codes "/") text is)

pub fewer : (text rest : List ℕ) → rest_after (codes "/") text ≡ Some rest → length rest < length text
fewer text rest is =
    let whole = begins (codes "/") text rest is in
    omega (arith, ap (λ t. length t) whole, length-append (codes "/") rest)

-- ---- slashes at the end

pub last_gone : (text front : List ℕ) → front_of (codes "/") text ≡ Some front → before_slashes front ≡ before_slashes text
last_gone text front is = let whole = ends (codes "/") text front is in rw (whole, reverse-append front (codes "/")) refl

pub none_last : (text : List ℕ) → front_of (codes "/") text ≡ None → before_slashes text ≡ text
none_last text is = ap (λ t. reverse t) (stays (reverse text) (λ rest e. ends_not (codes "/") text is (reverse rest)
    (sym (reverse-reverse text) ∙ ap (λ t. reverse t) e ∙ reverse-append (codes "/") rest))) ∙ reverse-reverse text

pub fewer_before : (text front : List ℕ) → front_of (codes "/") text ≡ Some front → length front < length text
fewer_before text front is =
    let whole = ends (codes "/") text front is in
    omega (arith, ap (λ t. length t) whole, length-append front (codes "/"))

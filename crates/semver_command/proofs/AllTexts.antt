-- What holds of all elements, where lists grow together.
use Rattle.std.proofs.Common.{◌≡◌, ◌↔◌, ℕ, ◌+◌, ◌<◌, ◌≤◌, List, [], ◌∷◌, ◌++◌, drop, get_or, length, map}
use Rattle.std.proofs.lemmas.List.{drop_all, drop_more}
use Rattle.std.specs.List.{AllByRecursion}

all_pushed : {X : Type 0} (P : X → Type 0) (xs : List X) (x : X)
    → AllByRecursion P (xs ++ (x ∷ [])) ↔ (AllByRecursion P xs × P x)
all_pushed P [] x = (λ all. (tt, all.0), λ both. (both.1, tt))
all_pushed P (y ∷ xs) x =
    let more = all_pushed P xs x in
    (λ all. ((all.0, (more.0 all.1).0), (more.0 all.1).1), λ both. (both.0.0, more.1 (both.0.1, both.1)))

pub all_more : {X Y T : Type 0} (P : X → Type 0) (Q : Y → Type 0) (value : T → Y) (texts : List T) (i : ℕ) (d : T)
    (done more : List X) (x : X) → i < length texts → (P x ↔ Q (value (get_or texts i d)))
    → more ≡ done ++ (x ∷ [])
    → ((AllByRecursion P done × AllByRecursion Q (map value (drop i texts))) ↔ AllByRecursion Q (map value texts))
    → ((AllByRecursion P more × AllByRecursion Q (map value (drop (i + 1) texts))) ↔ AllByRecursion Q (map value texts))
all_more P Q value texts i d done more x small one is held =
    let cut : drop i texts ≡ get_or texts i d ∷ drop (i + 1) texts = drop_more texts i d small in
    let here : AllByRecursion Q (map value (drop i texts))
    ↔ (Q (value (get_or texts i d)) × AllByRecursion Q (map value (drop (i + 1) texts))) = rw cut (λ all. all, λ all. all) in
    let pushed = all_pushed P done x in
    rw is (
      λ both. held.0 ((pushed.0 both.0).0, here.1 (one.0 (pushed.0 both.0).1, both.1)),
      λ all.
          (pushed.1 ((held.1 all).0, one.1 (here.0 (held.1 all).1).0), (here.0 (held.1 all).1).1),
    )

pub all_done : {X Y T : Type 0} (P : X → Type 0) (Q : Y → Type 0) (value : T → Y) (texts : List T) (i : ℕ)
    (done : List X) → length texts ≤ i
    → ((AllByRecursion P done × AllByRecursion Q (map value (drop i texts))) ↔ AllByRecursion Q (map value texts))
    → (AllByRecursion P done ↔ AllByRecursion Q (map value texts))
all_done P Q value texts i done past held =
    let gone : drop i texts ≡ [] = drop_all i texts past in
    let none : AllByRecursion Q (map value (drop i texts)) = rw gone tt in
    (λ all. held.0 (all, none), λ all. (held.1 all).0)

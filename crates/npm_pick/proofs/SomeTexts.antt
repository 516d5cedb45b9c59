-- What holds of some element, where lists grow together.
use Rattle.std.proofs.Common.{◌≡◌, ◌∙◌, ◌↔◌, ◌⊎◌, ℕ, ◌+◌, ◌<◌, ◌≤◌, List, [], ◌∷◌, ◌++◌, ap, drop, get_or, inl, inr, length, map, sym}
use Rattle.std.proofs.lemmas.List.{drop_all, drop_more}
use Rattle.semver_cuts.specs.Lemmas.Lists.{any-either, any-left, any-right}
use Rattle.semver_cuts.specs.SpanLists.{AnyByRecursion}

pub some_more : {X Y T : Type 0} (P : X → Type 0) (Q : Y → Type 0) (value : T → Y) (texts : List T) (i : ℕ) (t : T)
    (done more : List X) (x : X) → i < length texts → t ≡ get_or texts i t → (P x ↔ Q (value t))
    → more ≡ done ++ (x ∷ [])
    → ((AnyByRecursion P done ⊎ AnyByRecursion Q (map value (drop i texts))) ↔ AnyByRecursion Q (map value texts))
    → ((AnyByRecursion P more ⊎ AnyByRecursion Q (map value (drop (i + 1) texts))) ↔ AnyByRecursion Q (map value texts))
some_more P Q value texts i t done more x small place one is held =
    let cut : drop i texts ≡ t ∷ drop (i + 1) texts =
    drop_more texts i t small ∙ ap (λ e. e ∷ drop (i + 1) texts) (sym place) in
    let here : AnyByRecursion Q (map value (drop i texts))
    ↔ (Q (value t) ⊎ AnyByRecursion Q (map value (drop (i + 1) texts))) =
    rw cut (λ some. some, λ some. some) in
    rw is (
      (λ either. elim either [
        | inl some ↦ elim (any-either P done (x ∷ []) some) [
          | inl before ↦ held.0 (inl before)
          | inr last ↦ elim last [
            | inl p ↦ held.0 (inr (here.1 (inl (one.0 p))))
            | inr never ↦ absurd never
          ]
        ]
        | inr later ↦ held.0 (inr (here.1 (inr later)))
      ]),
      (λ some. elim (held.1 some) [
        | inl before ↦ inl (any-left P done (x ∷ []) before)
        | inr left ↦ elim (here.0 left) [
          | inl q ↦ inl (any-right P done (x ∷ []) (inl (one.1 q)))
          | inr later ↦ inr later
        ]
      ]),
    )

pub some_done : {X Y T : Type 0} (P : X → Type 0) (Q : Y → Type 0) (value : T → Y) (texts : List T) (i : ℕ)
    (done : List X) → length texts ≤ i
    → ((AnyByRecursion P done ⊎ AnyByRecursion Q (map value (drop i texts))) ↔ AnyByRecursion Q (map value texts))
    → (AnyByRecursion P done ↔ AnyByRecursion Q (map value texts))
some_done P Q value texts i done past held =
    let gone : drop i texts ≡ [] = drop_all i texts past in
    let none : ¬ AnyByRecursion Q (map value (drop i texts)) = rw gone (λ never. never) in (
      (λ some. held.0 (inl some)),
      (λ some. elim (held.1 some) [ inl there ↦ there | inr left ↦ absurd (none left) ]),
    )

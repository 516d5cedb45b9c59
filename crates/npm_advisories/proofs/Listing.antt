-- JSON values of a list, one after another.
use Rattle.std.proofs.Common.{◌≡◌, ◌<◌, ◌+◌, ℕ, List, [], ◌∷◌, ◌++◌, get_or, length, map, refl, take}
use Rattle.std.proofs.lemmas.List.{map-append, take_more}
use Rattle.serde_json.specs.Data.{Data}
use Rattle.serde_json.specs.View.{view}
use Rattle.serde_json.specs.declared.value.Value.{Value}

pub next-value : {X : Type 0} (seen : X → Data) (xs : List X) (i : ℕ) (one : X) (values next : List Value) (new : Value)
    → i < length xs → one ≡ get_or xs i one → next ≡ values ++ new ∷ [] → view new ≡ seen one
    → map view values ≡ map seen (take i xs) → map view next ≡ map seen (take (i + 1) xs)
next-value seen xs i one values next new lt at e is before =
    rw (
      e,
      take_more xs i one lt,
      ← at,
      map-append view values (new ∷ []),
      map-append seen (take i xs) (one ∷ []),
      before,
      is,
    ) refl

pub map-twice : {X Y Z : Type 0} (f : X → Y) (g : Y → Z) (xs : List X) → map (λ x. g (f x)) xs ≡ map g (map f xs)
map-twice f g [] = refl
map-twice f g (x ∷ xs) = rw (map-twice f g xs) refl

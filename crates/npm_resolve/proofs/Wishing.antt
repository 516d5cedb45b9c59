-- What one manifest more asks for.
use Rattle.std.proofs.Common.{◌≡◌, ◌∙◌, ◌++◌, ◌+◌, ◌<◌, ℕ, List, [], ◌∷◌, ap, append-nil, get_or, length, map, sym, take}
use Rattle.std.proofs.lemmas.List.Concat.{flat_map-append}
use Rattle.std.specs.List.{flat_map}
use Rattle.serde_json.specs.View.{view}
use Rattle.serde_json.specs.declared.value.Value.{Value}
use Rattle.npm_resolve.specs.Asks.{RulesValue, ask_value}
use Rattle.npm_resolve.specs.declared.candidates.asks.Asks.{Asks}
use Rattle.npm_resolve.specs.declared.candidates.options.Omits.{Omits}
use Rattle.npm_resolve.specs.Private.Wishing.{AreWishesAdded}
use Rattle.npm_resolve.specs.Wishes.{AreWishes, IsWish, WishesValue}
use Rattle.npm_pick.specs.Lemmas.Zips.{item_more}

-- the list of one part more
parts_more : {X Y : Type 0} (part : X → List Y) (old new : List Y) (each : List X) (one : X) → old ≡ flat_map part each
    → new ≡ old ++ part one → new ≡ flat_map part (each ++ one ∷ [])
parts_more part old new each one held is = is ∙ ap (λ l. l ++ part one) held
    ∙ ap (λ l. flat_map part each ++ l) (sym (append-nil (part one))) ∙ sym (flat_map-append part each (one ∷ []))

module _ (rules : RulesValue) (omits : Omits) (manifests : List Value) (i : ℕ) (manifest : Value) (old new : Asks) where
  pub wishes_more : i < length manifests → manifest ≡ get_or manifests i manifest
      → AreWishes rules omits (take i manifests) (map ask_value old.asks.items) (map ask_value old.left_out.items)
      → AreWishesAdded rules omits (view manifest) old new
      → AreWishes rules omits (take (i + 1) manifests) (map ask_value new.asks.items) (map ask_value new.left_out.items)
  wishes_more inside here held more =
      let one : WishesValue = record { asks = more.asks; left_out = more.left_out } in record {
        each = held.each ++ one ∷ [];
        are = item_more (IsWish rules omits) manifests held.each i manifest one inside here held.are more.are;
        asked = parts_more (λ (w : WishesValue). w.asks) (map ask_value old.asks.items) (map ask_value new.asks.items) held.each one held.asked more.asked;
        others = parts_more (λ (w : WishesValue). w.left_out) (map ask_value old.left_out.items) (map ask_value new.left_out.items) held.each one
            held.others more.others;
      }

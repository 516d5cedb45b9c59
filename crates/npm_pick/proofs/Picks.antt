-- Keys that are picked for texts, one after the other.
use Rattle.std.proofs.Common.{◌≡◌, ◌∙◌, ℕ, ◌+◌, ◌<◌, ◌≤◌, List, [], ◌∷◌, ◌++◌, ap, append_assoc, append-nil, drop, get_or, length, map, sym}
use Rattle.std.proofs.lemmas.List.{drop_all, drop_more, map-append}
use Rattle.std.proofs.lemmas.List.Elements.{All-push}
use Rattle.std.specs.List.{All}
use Rattle.serde_json.specs.Data.{Data}
use Rattle.npm_pick.specs.Kept.{ArePicked, KeyValue, none, passed, picked}
use Rattle.npm_pick.specs.Private.Keeping.{IsKeyRead, IsPickAdded, added, kept, texts_of}
use Rattle.npm_pick.specs.declared.options.Options.{Options}

module _ {T : Type 0} (p : Data) (o : Options) (value : T → List ℕ) (texts : List T) where
  -- the keys so far, and then those of the texts that are left
  abbrev pub AreSoFar : (i : ℕ) → List KeyValue → Type 0
  AreSoFar i keys = (rest : List (List ℕ)) → ArePicked p o (map value (drop i texts)) rest
      → ArePicked p o (map value texts) (texts_of keys ++ rest)

  pub picked_more : (i : ℕ) (t : T) (old new : List KeyValue) → i < length texts → t ≡ get_or texts i t
      → IsPickAdded p o (value t) old new → AreSoFar i old → AreSoFar (i + 1) new
  picked_more i t old new small place (added answer key is same read more) held rest later =
      let cut : drop i texts ≡ t ∷ drop (i + 1) texts =
      drop_more texts i t small ∙ ap (λ e. e ∷ drop (i + 1) texts) (sym place) in
      let here : ArePicked p o (map value (drop i texts)) (answer.key ∷ rest) =
      rw cut (picked (value t) answer (map value (drop (i + 1) texts)) rest is later) in
      let whole : texts_of new ++ rest ≡ texts_of old ++ (answer.key ∷ rest) =
      ap (λ (l : List KeyValue). texts_of l ++ rest) more
      ∙ ap (λ (l : List (List ℕ)). l ++ rest) (map-append (λ (k : KeyValue). k.text) old (key ∷ []))
      ∙ append_assoc (texts_of old) (key.text ∷ []) rest ∙ ap (λ (k : List ℕ). texts_of old ++ (k ∷ rest)) same in
      rw whole (held (answer.key ∷ rest) here)
  picked_more i t old new small place (kept error is same) held rest later =
      let cut : drop i texts ≡ t ∷ drop (i + 1) texts =
      drop_more texts i t small ∙ ap (λ e. e ∷ drop (i + 1) texts) (sym place) in
      let here : ArePicked p o (map value (drop i texts)) rest =
      rw cut (passed (value t) error (map value (drop (i + 1) texts)) rest is later) in
      rw same (held rest here)

  pub picked_all : (i : ℕ) (keys : List KeyValue) → length texts ≤ i → AreSoFar i keys
      → ArePicked p o (map value texts) (texts_of keys)
  picked_all i keys past held =
      let gone : drop i texts ≡ [] = drop_all i texts past in
      let ended : ArePicked p o (map value (drop i texts)) [] = rw gone none in
      rw (append-nil (texts_of keys)) at (held [] ended)

pub read_more : (p : Data) (o : Options) (text : List ℕ) (old new : List KeyValue) → IsPickAdded p o text old new
    → All IsKeyRead old → All IsKeyRead new
read_more p o text old new (added answer key is same read more) all = rw more (All-push IsKeyRead old key all read)
read_more p o text old new (kept error is same) all = rw same all

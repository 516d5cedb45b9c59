-- A text more is read, and then all are.
use Rattle.std.proofs.Common.{◌≡◌, ℕ, List, [], ◌∷◌, ◌++◌, map, refl}
use Rattle.std.proofs.lemmas.List.{map-append, take_all}
use Rattle.std.proofs.lemmas.List.Elements.{All-push}
use Rattle.std.specs.List.{All}
use Rattle.npm_pick.specs.Kept.{KeyValue}
use Rattle.npm_pick.specs.Lemmas.Gathering.{pushed_at}
use Rattle.npm_pick.specs.Private.Keeping.{IsKeyRead, key_value, texts_of}
use Rattle.npm_pick.specs.declared.key.Key.{Key}
use Rattle.npm_pick.proofs.key.keys_in_order.Goals as goal

text_more : (old new : List Key) (key : Key) (text : List ℕ) → new ≡ old ++ (key ∷ []) → key.text.now ≡ text
    → texts_of (map key_value new) ≡ texts_of (map key_value old) ++ (text ∷ [])
text_more old new key text is same = rw (
  is,
  map-append key_value old (key ∷ []),
  map-append (λ (k : KeyValue). k.text) (map key_value old) (key_value key ∷ []),
  same,
) refl

read_more : (old new : List Key) (key : Key) → new ≡ old ++ (key ∷ []) → IsKeyRead (key_value key)
    → All IsKeyRead (map key_value old) → All IsKeyRead (map key_value new)
read_more old new key is one all = rw (is, map-append key_value old (key ∷ []))
    (All-push IsKeyRead (map key_value old) (key_value key) all one)

pub loop-text-preserved : goal.loop-text-preserved
loop-text-preserved c = record {
  texts = pushed_at (λ text. text.now) c.args.texts.now [] _ _ c.loop-text.text-index _ c.loop-text-test.true
      (text_more _ _ c.of.result _ c.in_ok-push.ensures.items c.of.ensures.text) c.loop-text.invariant.texts;
  read = read_more _ _ c.of.result c.in_ok-push.ensures.items c.of.ensures.read c.loop-text.invariant.read;
}

pub returns-clause-exact : goal.returns-clause-exact
returns-clause-exact c = rw (
  c.loop-text.invariant.texts,
  take_all c.loop-text.text-index c.args.texts.now c.loop-text-test.false,
) at c.in_order.ensures.exact

-- The keys of the candidates that ask for a wish, and one candidate more.
use Rattle.std.proofs.Common.{◌≡◌, ◌+◌, ◌++◌, ℕ, List, [], ◌∷◌, Bor, add-one, map}
use Rattle.std.proofs.lemmas.List.{map-append}
use Rattle.version_solving.specs.Wishes.{SomeMakes}
use Rattle.version_solving.specs.declared.reasoning.reason.Wish.{Wish}
use Rattle.npm_resolve.specs.Explanations.{AreKeys, asks, candidates_of, key_at, other}
use Rattle.npm_resolve.specs.Texts.{text}
use Rattle.npm_resolve.specs.declared.posed.Posed.{Posed}

module _ (posed : Posed) (name : ℕ) (wish : Wish) (candidate : ℕ) (keys : List (Bor (List ℕ)))
    (are : AreKeys posed name wish candidate (map text keys)) where
  pub asks_more : (new : List (Bor (List ℕ))) (key : Bor (List ℕ)) → SomeMakes (candidates_of posed) name candidate wish
      → key.now ≡ key_at posed name candidate → new ≡ keys ++ key ∷ [] → AreKeys posed name wish (candidate + 1) (map text new)
  asks_more new key makes is more = rw (more, map-append text keys (key ∷ []), is, add-one) (asks candidate (map text keys) are makes)

  pub other_more : (SomeMakes (candidates_of posed) name candidate wish → ⊥) → AreKeys posed name wish (candidate + 1) (map text keys)
  other_more none = rw add-one (other candidate (map text keys) are none)

-- One version more of a list of which a range text hits some.
use Rattle.std.proofs.Common.{◌≡◌, ◌<◌, ◌+◌, ℕ, List, [], ◌∷◌, ◌++◌, get_or, length, map, take}
use Rattle.std.proofs.lemmas.List.{map-append, take_more}
use Rattle.node_semver_callers.specs.Hits.{AreHits, hit, none, spared}
use Rattle.node_semver.specs.Ranges.{TextAdmits}
use Rattle.node_semver.specs.Versions.{VersionValue}

module _ (text : List ℕ) (v : VersionValue) where
  -- one that is hit is one hit more
  pub one-hit : (installed hits : List VersionValue) → AreHits text installed hits → TextAdmits text v
      → AreHits text (installed ++ v ∷ []) (hits ++ v ∷ [])
  one-hit _ _ none admits = hit v [] [] admits none
  one-hit _ _ (hit w installed hits here more) admits =
      hit w (installed ++ v ∷ []) (hits ++ v ∷ []) here (one-hit installed hits more admits)
  one-hit _ _ (spared w installed hits other more) admits =
      spared w (installed ++ v ∷ []) (hits ++ v ∷ []) other (one-hit installed hits more admits)

  -- one that is not hit is none
  pub one-spared : (installed hits : List VersionValue) → AreHits text installed hits → ¬ TextAdmits text v
      → AreHits text (installed ++ v ∷ []) hits
  one-spared _ _ none other = spared v [] [] other none
  one-spared _ _ (hit w installed hits here more) other =
      hit w (installed ++ v ∷ []) hits here (one-spared installed hits more other)
  one-spared _ _ (spared w installed hits not more) other =
      spared w (installed ++ v ∷ []) hits not (one-spared installed hits more other)

module _ {X : Type 0} (now : X → VersionValue) (text : List ℕ) (installed : List VersionValue) (i : ℕ) where
  -- the version at i is hit, and added to the hits
  pub next-hit : (one : X) (hits next : List X) → i < length installed → now one ≡ get_or installed i (now one)
      → AreHits text (take i installed) (map now hits) → TextAdmits text (now one) → next ≡ hits ++ one ∷ []
      → AreHits text (take (i + 1) installed) (map now next)
  next-hit one hits next lt is before admits e =
      rw (e, map-append now hits (one ∷ []), take_more installed i (now one) lt, ← is)
      (one-hit text (now one) (take i installed) (map now hits) before admits)

  -- the version at i is not
  pub next-spared : (v : VersionValue) (hits next : List X) → i < length installed → v ≡ get_or installed i v
      → AreHits text (take i installed) (map now hits) → ¬ TextAdmits text v → next ≡ hits
      → AreHits text (take (i + 1) installed) (map now next)
  next-spared v hits next lt is before other e =
      rw (e, take_more installed i v lt, ← is) (one-spared text v (take i installed) (map now hits) before other)

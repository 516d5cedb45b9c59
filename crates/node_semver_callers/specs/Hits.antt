-- Which versions of a list a range text admits.
use Rattle.std.specs.Prelude.{ℕ, List, [], ◌∷◌}
use Rattle.node_semver.specs.Ranges.{TextAdmits}
use Rattle.node_semver.specs.Versions.{VersionValue}

-- those that the range text admits, in the list's order: for `^1.0.0`, 1.2.0 and 1.0.0 of 1.2.0, 2.0.0 and 1.0.0
pub data AreHits (text : List ℕ) : List VersionValue → List VersionValue → Type 0 where
  none : AreHits text [] []
  hit : (v : VersionValue) (installed hits : List VersionValue) → TextAdmits text v → AreHits text installed hits
      → AreHits text (v ∷ installed) (v ∷ hits)
  spared : (v : VersionValue) (installed hits : List VersionValue) → ¬ TextAdmits text v → AreHits text installed hits
      → AreHits text (v ∷ installed) hits

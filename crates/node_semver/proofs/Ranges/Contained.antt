-- A version that satisfies a range lies inside one of its sets.
use Rattle.std.proofs.Common.{List, [], ◌∷◌, inl, inr}
use Rattle.semver_cuts.specs.Ends.{Ends}
use Rattle.semver_sets.specs.Meaning.{RangeAdmits, RangeContains}
use Rattle.semver_texts.specs.Version.{VersionValue}

pub admitted-contained : (sets : List (Ends VersionValue)) (v : VersionValue) → RangeAdmits sets v
    → RangeContains sets v
admitted-contained [] v none = none
admitted-contained (set ∷ sets) v (inl here) = inl here.inside
admitted-contained (set ∷ sets) v (inr later) = inr (admitted-contained sets v later)

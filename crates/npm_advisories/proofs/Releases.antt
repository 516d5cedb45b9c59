-- Releases: a range admits one if it contains it.
use Rattle.std.proofs.Common.{◌≡◌, ◌↔◌, List, [], ◌∷◌, Option, inl, inr, refl, sym, subst}
use Rattle.std.specs.Prelude.{◌⊎◌}
use Rattle.semver_cuts.specs.Ends.{Ends}
use Rattle.semver_cuts.specs.Lemmas.InSome.{in_span-or_not}
use Rattle.semver_cuts.specs.declared.cut.Cut.TheVariants.{Before}
use Rattle.semver_texts.specs.Lemmas.Public.{version_total}
use Rattle.node_semver.specs.Ranges.{RangeAdmits, RangeContains, all_cuts}
use Rattle.node_semver.specs.Versions.{IsPrerelease, VersionValue}
use Rattle.node_semver.specs.RangeAlgebra.{sets_of_answer}

-- ---- admitted and contained

pub contained-admitted : (sets : List (Ends VersionValue)) (v : VersionValue) → ¬ IsPrerelease v
    → RangeContains sets v → RangeAdmits sets v
contained-admitted [] v release is = absurd is
contained-admitted (set ∷ sets) v release (inl here) =
    inl (record { inside = here; opened = λ pre. absurd (release pre) })
contained-admitted (set ∷ sets) v release (inr there) = inr (contained-admitted sets v release there)

pub admitted-contained : (sets : List (Ends VersionValue)) (v : VersionValue) → RangeAdmits sets v
    → RangeContains sets v
admitted-contained [] v is = absurd is
admitted-contained (set ∷ sets) v (inl here) = inl here.inside
admitted-contained (set ∷ sets) v (inr there) = inr (admitted-contained sets v there)

-- a range contains a version or it does not
pub contains-or_not : (sets : List (Ends VersionValue)) (v : VersionValue)
    → RangeContains sets v ⊎ (¬ RangeContains sets v)
contains-or_not [] v = inr (λ is. is)
contains-or_not (set ∷ sets) v = elim (in_span-or_not version_total (Before v) set) [
  | inl here ↦ inl (inl here)
  | inr not_here ↦ elim (contains-or_not sets v) [
    | inl there ↦ inl (inr there)
    | inr not_there ↦ inr (λ is. elim is [
      | inl here ↦ not_here here
      | inr there ↦ not_there there
    ])
  ]
]

-- ---- all versions

pub all-admitted : (v : VersionValue) → ¬ IsPrerelease v → RangeAdmits (all_cuts ∷ []) v
all-admitted v release =
    inl (record { inside = record { lower = inl refl; upper = refl }; opened = λ pre. absurd (release pre) })

module _ (all : List (Ends VersionValue)) (is_all : all ≡ all_cuts ∷ []) where
  -- the difference of all versions and a range has the releases that the range does not admit
  pub difference-releases : (range sets : List (Ends VersionValue)) (answer : Option (List (Ends VersionValue)))
      → sets ≡ sets_of_answer answer
      → ((v : VersionValue) → ¬ IsPrerelease v
      → RangeAdmits (sets_of_answer answer) v ↔ (RangeAdmits all v × (¬ RangeAdmits range v)))
      → (v : VersionValue) → ¬ IsPrerelease v → RangeContains sets v ↔ (¬ RangeAdmits range v)
  difference-releases range sets answer is releases v release = (
    λ contains. ((releases v release).0
        (contained-admitted _ v release (subst (λ r. RangeContains r v) is contains))).1,
    λ other. subst (λ r. RangeContains r v) (sym is) (admitted-contained _ v ((releases v release).1
        (subst (λ r. RangeAdmits r v) (sym is_all) (all-admitted v release), other))),
  )

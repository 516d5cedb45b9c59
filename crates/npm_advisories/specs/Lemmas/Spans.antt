-- Spans that can be sets of a range, and the versions that they contain.
use Rattle.std.proofs.Common.{◌≡◌, ◌↔◌, ◌++◌, ◌∷◌, [], List, Option, Some, None, IfSome, IsNone, inl, inr, refl}
use Rattle.std.specs.List.{AllByRecursion}
use Rattle.std.specs.Prelude.{◌⊎◌}
use Rattle.semver_cuts.specs.Ends.{Ends}
use Rattle.semver_cuts.specs.Lemmas.Lists.{all-append, any-either, any-left, any-right}
use Rattle.node_semver.specs.RangeAlgebra.{sets_of_answer}
use Rattle.node_semver.specs.Ranges.{AnyByRecursion, IsInside, IsRangeSet, IsRangeValue, RangeContains}
use Rattle.node_semver.specs.Versions.{VersionValue}

-- the spans can be sets of a range, and contain these versions
pub record Have (spans : List (Ends VersionValue)) (Has : VersionValue → Type 0) : Type 0 where
  pub each : AllByRecursion IsRangeSet spans
  pub exact : (v : VersionValue) → RangeContains spans v ↔ Has v

-- one span, or none
abbrev pub span_list : Option (Ends VersionValue) → List (Ends VersionValue)
span_list None = []
span_list (Some span) = span ∷ []

module _ (One Other : VersionValue → Type 0) where
  -- the spans have the same versions
  pub have-same : (spans : List (Ends VersionValue)) → ((v : VersionValue) → One v ↔ Other v) → Have spans One
      → Have spans Other
  have-same spans same have = record {
    each = have.each;
    exact = λ v. (λ is. (same v).0 ((have.exact v).0 is), λ is. (have.exact v).1 ((same v).1 is));
  }

  -- two lists, one after the other, have the versions of both
  pub have-either : (ones others : List (Ends VersionValue)) → Have ones One → Have others Other
      → Have (ones ++ others) (λ v. One v ⊎ Other v)
  have-either ones others one other = record {
    each = all-append IsRangeSet ones others one.each other.each;
    exact = λ v. (
      λ contains. elim (any-either (IsInside v) ones others contains) [
        | inl here ↦ inl ((one.exact v).0 here)
        | inr there ↦ inr ((other.exact v).0 there)
      ],
      λ has. elim has [
        | inl here ↦ any-left (IsInside v) ones others ((one.exact v).1 here)
        | inr there ↦ any-right (IsInside v) ones others ((other.exact v).1 there)
      ],
    );
  }

module _ {X : Type 0} (P : X → VersionValue → Type 0) where
  pub have-none : Have [] (λ v. AnyByRecursion (λ x. P x v) [])
  have-none = record { each = tt; exact = λ v. (λ is. is, λ is. is) }

  -- the spans of some elements, and those of others
  pub have-more : (front part : List X) (old more new : List (Ends VersionValue)) → new ≡ old ++ more
      → Have old (λ v. AnyByRecursion (λ x. P x v) front) → Have more (λ v. AnyByRecursion (λ x. P x v) part)
      → Have new (λ v. AnyByRecursion (λ x. P x v) (front ++ part))
  have-more front part old more new e had has =
      rw e (have-same (λ v. AnyByRecursion (λ x. P x v) front ⊎ AnyByRecursion (λ x. P x v) part)
      (λ v. AnyByRecursion (λ x. P x v) (front ++ part)) (old ++ more) (λ v. (
        λ either. elim either [
          | inl here ↦ any-left (λ x. P x v) front part here
          | inr there ↦ any-right (λ x. P x v) front part there
        ],
        λ some. any-either (λ x. P x v) front part some,
      )) (have-either (λ v. AnyByRecursion (λ x. P x v) front) (λ v. AnyByRecursion (λ x. P x v) part) old more had
      has))

-- the range of such spans has what they have
pub range-means : (Has : VersionValue → Type 0) (spans : List (Ends VersionValue)) (answer : Option (List (Ends VersionValue)))
    → Have spans Has → IfSome answer (λ range. range ≡ spans) → (IsNone answer ↔ (¬ IsRangeValue spans))
    → (v : VersionValue) → RangeContains (sets_of_answer answer) v ↔ Has v
range-means Has spans (Some range) have same none v = rw same (have.exact v)
range-means Has [] None have same none v = have.exact v
range-means Has (span ∷ spans) None have same none v =
    absurd (none.0 refl (record { some = λ is. absurd (cc); each = have.each }))

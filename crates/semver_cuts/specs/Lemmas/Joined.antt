-- Lists of spans that are merged as they stand are joined to themselves.
use Rattle.semver_cuts.specs.Lemmas.Apart.{lowers-above, uppers-above}
use native.Mathlib.Omega.{arith}
use Rattle.std.specs.Prelude.{◌≡◌, List, [], ◌∷◌, ◌++◌, refl}
use Rattle.std.specs.declared.cmp.Ordering.{Ordering}
use Rattle.std.specs.declared.cmp.Ordering.TheVariants.{Equal}
use Rattle.std.specs.List.{AllByRecursion}
use Rattle.std.specs.Cmp.{IsTotalOrder}
use Rattle.std.proofs.lemmas.List.{append_assoc}
use Rattle.semver_cuts.specs.declared.cut.Cut.{Cut}
use Rattle.semver_cuts.specs.Cut.{cut_cmp}
use Rattle.semver_cuts.specs.Ends.{Ends, IsCutBelow}
use Rattle.semver_cuts.specs.Joined.{AreJoined, AreMerged}
use Rattle.semver_cuts.specs.Places.{IsPlacesOf}
use Rattle.semver_cuts.specs.Difference.{IsFirstAt}
use Rattle.semver_cuts.specs.Lemmas.Apart.{apart-above, merged-tail}
use Rattle.semver_cuts.specs.Lemmas.Ends.{below-not-at_most, cut_cmp-equal_back}
use Rattle.semver_cuts.specs.Lemmas.Lists.{all_both, all_push}

pub all_unit : {X : Type 0} (xs : List X) → AllByRecursion (λ (x : X). Unit {0}) xs
all_unit [] = tt
all_unit (x ∷ xs) = (tt, all_unit xs)

module _ {T : Type 0} {cmp : T → T → Ordering} (o : IsTotalOrder cmp) where
  -- each end is less than that of each later span
  abbrev pub IsAscending : (Ends T → Cut T) → List (Ends T) → Type 0
  IsAscending end [] = Unit {0}
  IsAscending end (span ∷ spans) =
      AllByRecursion (λ (s : Ends T). IsCutBelow cmp (end span) (end s)) spans × IsAscending end spans

  pub merged-ascending : (spans : List (Ends T)) → AreMerged cmp spans
      → IsAscending (λ s. s.lower) spans × IsAscending (λ s. s.upper) spans
  merged-ascending [] are = (tt, tt)
  merged-ascending (span ∷ spans) are =
      grind (
        arith,
        apart-above o span spans,
        merged-tail cmp span spans,
        merged-tail cmp span spans are,
        uppers-above o
            span.upper spans,
        lowers-above o span.lower span.upper spans,
        merged-ascending spans (merged-tail cmp span
            spans are),
      )

  module _ (end : Ends T → Cut T) where
    abbrev IsNew : List (Ends T) → Ends T → Type 0
    IsNew front span = AllByRecursion (λ (s : Ends T). ¬ (cut_cmp cmp (end s) (end span) ≡ Equal)) front

    first-each : (front back : List (Ends T)) → AllByRecursion (IsNew front) back → IsAscending end back
        → AllByRecursion (λ (s : Ends T). IsFirstAt cmp end (front ++ back) (end s)) back
    first-each front [] new up = tt
    first-each front (span ∷ back) new up = (
      record {
        before = front;
        span = span;
        after = back;
        parts = refl;
        end_of = refl;
        earlier = new.0;
        later = all_unit
            back;
      },
      rw append_assoc at (first-each (front ++ span ∷ []) back
          (all_both _ _ _ (λ s p q. all_push _ front span p (grind (arith, below-not-at_most o, cut_cmp-equal_back o)))
          back new.1 up.0) up.1),
    )

  -- spans that are apart are joined to themselves
  pub apart-joined : (spans : List (Ends T)) → AreMerged cmp spans → AreJoined cmp spans spans
  apart-joined spans are =
      grind (
        arith,
        first-each (λ s. s.lower) [] spans (all_unit spans) (merged-ascending spans are).0,
        first-each (λ s.
            s.upper) [] spans (all_unit spans) (merged-ascending spans are).1,
        all_unit spans,
        merged-ascending spans are,
      )

  -- and have no places
  pub places_of-merged : (spans : List (Ends T)) → AreMerged cmp spans → IsPlacesOf cmp spans []
  places_of-merged spans are = grind (arith, apart-joined)

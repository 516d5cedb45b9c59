use Rattle.std.proofs.Common.{◌≡◌, ◌++◌, drop, map}
use Rattle.std.specs.List.{AllByRecursion}
use Rattle.semver_cuts.specs.Places.{span_of_places}
use Rattle.semver_cuts.proofs.algebra.joined.taken_at.Given as goal

abbrev pub invariant-loop-begins : goal.invariant-loop-begins
invariant-loop-begins g l = record {
  left : AllByRecursion (λ pair. span_of_places l.spans pair ≡ span_of_places l.fn.spans pair)
      (drop l.begins-index l.places);
  done : l.joined.items ++ map (span_of_places l.fn.spans) (drop l.begins-index l.places)
      ≡ map (span_of_places l.fn.spans) l.places;
}
